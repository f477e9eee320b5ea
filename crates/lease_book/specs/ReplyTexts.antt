-- The printed numbers and names of replies, and what is printed of each.
use Rattle.std.specs.Prelude.{ℕ, List, [], ◌∷◌, ◌++◌, codes, Option, None, Some}
use Rattle.std.specs.Fmt.{decimal}
use Rattle.checker.specs.FaultWords.{hand_fault_text}
use Rattle.lease_book.specs.declared.events.Reply.{Reply}
use Rattle.lease_book.specs.declared.events.Reply.TheVariants.{Given, Nothing, Freed, GaveUp}
use Rattle.lease_book.specs.declared.events.Reply.TheVariants.{UnknownLease, NotHeld, OtherEntry, AlreadyPublished}
use Rattle.lease_book.specs.declared.events.Reply.TheVariants.{BadCertificate, Published}
use Rattle.cards.specs.Bytes as ascii

-- the number of a refusal
abbrev pub refusal_number : Reply → Option ℕ
refusal_number UnknownLease = Some 1
refusal_number NotHeld = Some 2
refusal_number OtherEntry = Some 3
refusal_number AlreadyPublished = Some 4
refusal_number (BadCertificate fault) = Some 5
refusal_number _ = None

abbrev pub reply_name : Reply → List ℕ
reply_name (Given lease entry deadline) = codes "given"
reply_name Nothing = codes "nothing"
reply_name (Freed count) = codes "freed"
reply_name GaveUp = codes "gave up"
reply_name UnknownLease = codes "UnknownLease"
reply_name NotHeld = codes "NotHeld"
reply_name OtherEntry = codes "OtherEntry"
reply_name AlreadyPublished = codes "AlreadyPublished"
reply_name (BadCertificate fault) = codes "BadCertificate"
reply_name (Published tricks) = codes "published"

-- the number and a space, where there is one
abbrev pub number_text : Option ℕ → List ℕ
number_text (Some number) = decimal number ++ ascii.blank ∷ []
number_text None = []

-- what the reply tells after its name: a number, or the certificate's own fault
abbrev pub told_text : Reply → List ℕ
told_text (Given lease entry deadline) = ascii.blank ∷ decimal lease
told_text (Freed count) = ascii.blank ∷ decimal count
told_text (Published tricks) = ascii.blank ∷ decimal tricks
told_text (BadCertificate fault) = ascii.blank ∷ hand_fault_text fault
told_text _ = []

-- the number of a refusal, the name, and what it tells, as in `2 NotHeld`, `published 7` and `5 BadCertificate 11
-- NoDeal`
abbrev pub reply_text : Reply → List ℕ
reply_text reply = number_text (refusal_number reply) ++ (reply_name reply ++ told_text reply)
