-- Whether the numbers of a table are numbers of tricks.
use Rattle.std.proofs.Common.{◌≡◌, Bool, true, false, List, MatchBool, ℤ, to_z, of_z, w32, subst, sym, refl}
use Rattle.std.specs.Prelude.{FitsSigned}
use Rattle.std.proofs.lemmas.Int.{to_z-of_z}
use Rattle.cards.specs.declared.seats.Seat.{Seat}
use Rattle.cards.specs.declared.seats.Seat.TheVariants.{North, East, South, West}
use Rattle.dds_calls.specs.Pars.{IsTrickCount, entry_in}

-- what a test says if it passed, and if it failed
pub passed : (test : Bool) (P Q : Type 0) → test ≡ true → MatchBool test P Q → P
passed true P Q is cases = cases
passed false P Q is cases = cc

pub failed : (test : Bool) (P Q : Type 0) → test ≡ false → MatchBool test P Q → Q
failed true P Q is cases = cc
failed false P Q is cases = cases

-- The code tests a number that it has read as a word.
abbrev pub IsTest : Bool → ℤ → Type 0
IsTest test number =
    MatchBool test (IsTrickCount (to_z w32 (of_z w32 number))) (IsTrickCount (to_z w32 (of_z w32 number)) → ⊥)

-- the number is a number of tricks if the test passed, and is none if it failed
pub count_passed :
    (test : Bool) (number : ℤ) → FitsSigned w32 number → test ≡ true → IsTest test number → IsTrickCount number
count_passed test number fits is cases =
    subst IsTrickCount (to_z-of_z w32 number fits) (passed test _ _ is cases)

pub count_failed :
    (test : Bool) (number : ℤ) → FitsSigned w32 number → test ≡ false → IsTest test number → IsTrickCount number → ⊥
count_failed test number fits is cases count =
    failed test _ _ is cases (subst IsTrickCount (sym (to_z-of_z w32 number fits)) count)

-- four numbers are the numbers of all hands
four_counts :
    (hands : List ℤ) → IsTrickCount (entry_in hands North) → IsTrickCount (entry_in hands East)
    → IsTrickCount (entry_in hands South) → IsTrickCount (entry_in hands West)
    → (declarer : Seat) → IsTrickCount (entry_in hands declarer)
four_counts hands north east south west North = north
four_counts hands north east south west East = east
four_counts hands north east south west South = south
four_counts hands north east south west West = west

-- The last of four tests decides if the others passed.
pub last_count :
    (hands : List ℤ) (test : Bool) → FitsSigned w32 (entry_in hands West) → IsTrickCount (entry_in hands North)
    → IsTrickCount (entry_in hands East) → IsTrickCount (entry_in hands South) → IsTest test (entry_in hands West)
    → MatchBool test ((declarer : Seat) → IsTrickCount (entry_in hands declarer))
    ((declarer : Seat) × (IsTrickCount (entry_in hands declarer) → ⊥))
last_count hands true fits north east south cases =
    four_counts hands north east south (count_passed true (entry_in hands West) fits refl cases)
last_count hands false fits north east south cases =
    (West, count_failed false (entry_in hands West) fits refl cases)
