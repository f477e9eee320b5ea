-- Two graphs have one answer at most, and two texts one verdict.
use Rattle.std.proofs.Common.{◌≡◌, ℕ, ◌-◌, List, Result, Ok, Err, refl, sym, ◌∙◌, ap, subst, arith}
use Rattle.cards.specs.declared.suits.Trump.{Trump}
use Rattle.cards.specs.declared.seats.Seat.{Seat}
use Rattle.cards.specs.Seats.{next_of, side_of, other_side}
use Rattle.cards.specs.Deal.{Deal, size_of}
use Rattle.certificate_graph.specs.declared.faults.TextFault.{TextFault}
use Rattle.certificate_graph.specs.Graphs.{GraphShape}
use Rattle.certificate_graph.specs.TextFaults.{TextAnswers}
use Rattle.certificate_graph.proofs.OneAnswer.{one_answer_of}
use Rattle.checker.specs.declared.entries.Shown.{Shown}
use Rattle.checker.specs.declared.entry_faults.EntryFault.{EntryFault}
use Rattle.checker.specs.declared.entry_faults.EntryFault.TheVariants.{KTooLarge, Declarer, Defenders}
use Rattle.checker.specs.declared.hand_faults.HandFault.{HandFault}
use Rattle.checker.specs.declared.hand_faults.HandFault.TheVariants.{DeclarerText, DefendersText, Entry, NoDeal}
use Rattle.checker.specs.Roots.{RootedShape, from_first}
use Rattle.checker.specs.Claims.{ShowValue}
use Rattle.checker.specs.EntryFaults.{IsEntryFault, EntryAnswers}
use Rattle.checker.specs.Verdicts.{GraphsAnswer, IsVerdict}
use Rattle.checker.proofs.PartAnswers.{part_none, one_part}

-- ---- two graphs
entry_none : (deal : Deal) (declarer : Seat) (trump : Trump) (tricks : ℕ) (declarers defenders : RootedShape) (fault : EntryFault) → ShowValue deal declarer trump tricks declarers defenders →
    IsEntryFault deal declarer trump tricks declarers defenders fault → ⊥
entry_none deal declarer trump tricks declarers defenders KTooLarge show told = (let within = show.within in absurd (omega arith))
entry_none deal declarer trump tricks declarers defenders (Declarer fault) show told =
    part_none declarers deal (next_of declarer) trump (side_of declarer) tricks fault show.declarers_win told.1
entry_none deal declarer trump tricks declarers defenders (Defenders fault) show told =
    part_none defenders deal (next_of declarer) trump (other_side (side_of declarer)) (size_of deal - tricks) fault show.defenders_win told.2

one_fault : (deal : Deal) (declarer : Seat) (trump : Trump) (tricks : ℕ) (declarers defenders : RootedShape) (one other : EntryFault) → IsEntryFault deal declarer trump tricks declarers defenders one →
    IsEntryFault deal declarer trump tricks declarers defenders other → one ≡ other
one_fault deal declarer trump tricks declarers defenders KTooLarge KTooLarge a b = refl
one_fault deal declarer trump tricks declarers defenders KTooLarge (Declarer fault) a b = absurd (omega (arith, b.0))
one_fault deal declarer trump tricks declarers defenders KTooLarge (Defenders fault) a b = absurd (omega (arith, b.0))
one_fault deal declarer trump tricks declarers defenders (Declarer fault) KTooLarge a b = absurd (omega (arith, a.0))
one_fault deal declarer trump tricks declarers defenders (Declarer one) (Declarer other) a b =
    ap Declarer (one_part declarers deal (next_of declarer) trump (side_of declarer) tricks one other a.1 b.1)
one_fault deal declarer trump tricks declarers defenders (Declarer one) (Defenders other) a b =
    absurd (part_none declarers deal (next_of declarer) trump (side_of declarer) tricks one b.1 a.1)
one_fault deal declarer trump tricks declarers defenders (Defenders fault) KTooLarge a b = absurd (omega (arith, a.0))
one_fault deal declarer trump tricks declarers defenders (Defenders one) (Declarer other) a b =
    absurd (part_none declarers deal (next_of declarer) trump (side_of declarer) tricks other a.1 b.1)
one_fault deal declarer trump tricks declarers defenders (Defenders one) (Defenders other) a b =
    ap Defenders (one_part defenders deal (next_of declarer) trump (other_side (side_of declarer)) (size_of deal - tricks) one other a.2 b.2)

pub one_entry : (deal : Deal) (declarer : Seat) (trump : Trump) (tricks : ℕ) (declarers defenders : RootedShape) (one other : Result Shown EntryFault) →
    EntryAnswers deal declarer trump tricks declarers defenders one → EntryAnswers deal declarer trump tricks declarers defenders other → one ≡ other
one_entry deal declarer trump tricks declarers defenders (Ok one) (Ok other) a b = (let same : one ≡ other = a.0 ∙ sym b.0 in cc)
one_entry deal declarer trump tricks declarers defenders (Ok one) (Err fault) a b = absurd (entry_none deal declarer trump tricks declarers defenders fault a.1 b)
one_entry deal declarer trump tricks declarers defenders (Err fault) (Ok other) a b = absurd (entry_none deal declarer trump tricks declarers defenders fault b.1 a)
one_entry deal declarer trump tricks declarers defenders (Err one) (Err other) a b =
    let same = one_fault deal declarer trump tricks declarers defenders one other a b in
    cc

-- ---- two texts
not_both : (text : List ℕ) (graph : GraphShape) (fault : TextFault) → TextAnswers text (Ok graph) → TextAnswers text (Err fault) → ⊥
not_both text graph fault read wrong = let same = one_answer_of text (Ok graph) (Err fault) read wrong in cc

one_read : (text : List ℕ) (one other : GraphShape) → TextAnswers text (Ok one) → TextAnswers text (Ok other) → one ≡ other
one_read text one other read read' = let same = one_answer_of text (Ok one) (Ok other) read read' in cc

one_of_texts : (deal : Deal) (declarer : Seat) (trump : Trump) (tricks : ℕ) (declarer_text defenders_text : List ℕ) (one other : Result Shown EntryFault) →
    GraphsAnswer deal declarer trump tricks declarer_text defenders_text one → GraphsAnswer deal declarer trump tricks declarer_text defenders_text other → one ≡ other
one_of_texts deal declarer trump tricks declarer_text defenders_text one other a b =
    let declarers = one_read declarer_text a.declarers b.declarers a.declarers_read b.declarers_read in
    let defenders = one_read defenders_text a.defenders b.defenders a.defenders_read b.defenders_read in
    one_entry deal declarer trump tricks (from_first b.declarers) (from_first b.defenders) one other
    (subst (λ (g : GraphShape). EntryAnswers deal declarer trump tricks (from_first b.declarers) (from_first g) one) defenders
    (subst (λ (g : GraphShape). EntryAnswers deal declarer trump tricks (from_first g) (from_first a.defenders) one) declarers a.answers))
    b.answers

-- the answer for two graphs, and a fault of a text
not_text : (deal : Deal) (declarer : Seat) (trump : Trump) (tricks : ℕ) (declarer_text defenders_text : List ℕ) (answer : Result Shown EntryFault) (fault : TextFault) →
    GraphsAnswer deal declarer trump tricks declarer_text defenders_text answer → TextAnswers declarer_text (Err fault) → ⊥
not_text deal declarer trump tricks declarer_text defenders_text answer fault told wrong = not_both declarer_text told.declarers fault told.declarers_read wrong

not_other_text : (deal : Deal) (declarer : Seat) (trump : Trump) (tricks : ℕ) (declarer_text defenders_text : List ℕ) (answer : Result Shown EntryFault) (fault : TextFault) →
    GraphsAnswer deal declarer trump tricks declarer_text defenders_text answer → TextAnswers defenders_text (Err fault) → ⊥
not_other_text deal declarer trump tricks declarer_text defenders_text answer fault told wrong = not_both defenders_text told.defenders fault told.defenders_read wrong

-- what a verdict is of: the graphs, or one of the texts
pub one_verdict : (deal : Deal) (declarer : Seat) (trump : Trump) (tricks : ℕ) (declarer_text defenders_text : List ℕ) (one other : Result Shown HandFault) →
    IsVerdict deal declarer trump tricks declarer_text defenders_text one → IsVerdict deal declarer trump tricks declarer_text defenders_text other → one ≡ other
one_verdict deal declarer trump tricks declarer_text defenders_text (Ok one) (Ok other) a b =
    let same = one_of_texts deal declarer trump tricks declarer_text defenders_text (Ok one) (Ok other) a b in
    cc
one_verdict deal declarer trump tricks declarer_text defenders_text (Ok one) (Err (Entry other)) a b =
    let same = one_of_texts deal declarer trump tricks declarer_text defenders_text (Ok one) (Err other) a b in
    cc
one_verdict deal declarer trump tricks declarer_text defenders_text (Ok one) (Err (DeclarerText other)) a b = absurd (not_text deal declarer trump tricks declarer_text defenders_text (Ok one) other a b)
one_verdict deal declarer trump tricks declarer_text defenders_text (Ok one) (Err (DefendersText other)) a b = absurd (not_other_text deal declarer trump tricks declarer_text defenders_text (Ok one) other a b.2)
one_verdict deal declarer trump tricks declarer_text defenders_text (Ok one) (Err NoDeal) a b = absurd b
one_verdict deal declarer trump tricks declarer_text defenders_text (Err (Entry one)) (Ok other) a b =
    let same = one_of_texts deal declarer trump tricks declarer_text defenders_text (Err one) (Ok other) a b in
    cc
one_verdict deal declarer trump tricks declarer_text defenders_text (Err (Entry one)) (Err (Entry other)) a b =
    let same = one_of_texts deal declarer trump tricks declarer_text defenders_text (Err one) (Err other) a b in
    cc
one_verdict deal declarer trump tricks declarer_text defenders_text (Err (Entry one)) (Err (DeclarerText other)) a b = absurd (not_text deal declarer trump tricks declarer_text defenders_text (Err one) other a b)
one_verdict deal declarer trump tricks declarer_text defenders_text (Err (Entry one)) (Err (DefendersText other)) a b = absurd (not_other_text deal declarer trump tricks declarer_text defenders_text (Err one) other a b.2)
one_verdict deal declarer trump tricks declarer_text defenders_text (Err (Entry one)) (Err NoDeal) a b = absurd b
one_verdict deal declarer trump tricks declarer_text defenders_text (Err (DeclarerText one)) (Ok other) a b = absurd (not_text deal declarer trump tricks declarer_text defenders_text (Ok other) one b a)
one_verdict deal declarer trump tricks declarer_text defenders_text (Err (DeclarerText one)) (Err (Entry other)) a b = absurd (not_text deal declarer trump tricks declarer_text defenders_text (Err other) one b a)
one_verdict deal declarer trump tricks declarer_text defenders_text (Err (DeclarerText one)) (Err (DeclarerText other)) a b = (let same = one_answer_of declarer_text (Err one) (Err other) a b in cc)
one_verdict deal declarer trump tricks declarer_text defenders_text (Err (DeclarerText one)) (Err (DefendersText other)) a b = absurd (not_both declarer_text b.0 one b.1 a)
one_verdict deal declarer trump tricks declarer_text defenders_text (Err (DeclarerText one)) (Err NoDeal) a b = absurd b
one_verdict deal declarer trump tricks declarer_text defenders_text (Err (DefendersText one)) (Ok other) a b = absurd (not_other_text deal declarer trump tricks declarer_text defenders_text (Ok other) one b a.2)
one_verdict deal declarer trump tricks declarer_text defenders_text (Err (DefendersText one)) (Err (Entry other)) a b = absurd (not_other_text deal declarer trump tricks declarer_text defenders_text (Err other) one b a.2)
one_verdict deal declarer trump tricks declarer_text defenders_text (Err (DefendersText one)) (Err (DeclarerText other)) a b = absurd (not_both declarer_text a.0 other a.1 b)
one_verdict deal declarer trump tricks declarer_text defenders_text (Err (DefendersText one)) (Err (DefendersText other)) a b = (let same = one_answer_of defenders_text (Err one) (Err other) a.2 b.2 in cc)
one_verdict deal declarer trump tricks declarer_text defenders_text (Err (DefendersText one)) (Err NoDeal) a b = absurd b
one_verdict deal declarer trump tricks declarer_text defenders_text (Err NoDeal) other a b = absurd a
