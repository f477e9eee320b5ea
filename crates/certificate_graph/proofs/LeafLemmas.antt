-- The children of a leaf, at the beginning of a text.
use Rattle.std.proofs.Common.{◌≡◌, ℕ, ◌+◌, ◌<◌, ◌≤◌, List, [], ◌∷◌, Bool, true, false, Result, Ok, Err, sym, ◌∙◌, ap, arith}
use Rattle.std.specs.Prelude.{MatchBool}
use Rattle.cards.specs.Seats.{seat_number}
use Rattle.certificate_graph.specs.declared.children.Child.{Child}
use Rattle.certificate_graph.specs.declared.cursors.Stop.{Stop}
use Rattle.certificate_graph.specs.declared.cursors.Stop.TheVariants.{Other, NoMemory}
use Rattle.certificate_graph.specs.Outcomes.{Ends}
use Rattle.certificate_graph.specs.Texts.{child_text, more_children_text}
use Rattle.certificate_graph.specs.Readings.{IsShort, BeginsChild, LacksChild, BeginsMore, LacksMore, BeginsChildren, LacksChildren}
use Rattle.certificate_graph.proofs.OneSpelling.{tails}
use Rattle.certificate_graph.proofs.OneNode.{one_child, more-stops}

-- an outcome, told otherwise
pub ends_map : {X : Type 0} {Found Found' : X → Type 0} {Lacking Lacking' : Type 0} (outcome : Result X Stop) → ((rest : X) → Found rest → Found' rest) → (Lacking → Lacking') → Ends outcome Found Lacking → Ends outcome Found' Lacking'
ends_map (Ok rest) f g h = f rest h
ends_map (Err Other) f g h = g h
ends_map (Err NoMemory) f g h = h

-- and one of nothing that was read
pub stops_map : {X : Type 0} {Lacking Lacking' : Type 0} (Found Found' : X → Type 0) (stop : Stop) → (Lacking → Lacking') → Ends (Err stop) Found Lacking → Ends (Err stop) Found' Lacking'
stops_map Found Found' Other g h = g h
stops_map Found Found' NoMemory g h = h

-- a test, told otherwise
pub test_map : {Found Lacking Found' Lacking' : Type 0} (test : Bool) → (Found → Found') → (Lacking → Lacking') → MatchBool test Found Lacking → MatchBool test Found' Lacking'
test_map true f g h = f h
test_map false f g h = g h

-- the text begins with no such byte
abbrev pub LacksByte : ℕ → List ℕ → Type 0
LacksByte byte text = (rest : List ℕ) → text ≡ byte ∷ rest → ⊥

first_child : (c d : Child) (text after : List ℕ) (cs : List Child) (rest : List ℕ) → IsShort d.number → BeginsChild text c after → text ≡ child_text d (more_children_text cs rest) → (c ≡ d) × (after ≡ more_children_text cs rest)
first_child c d text after cs rest short begins e = one_child c d after _ begins.short short begins.stops (more-stops cs rest) (sym begins.is ∙ e)

pub lacks_by_blank : (least : ℕ) (text : List ℕ) → LacksByte 125 text → LacksByte 32 text → LacksMore least text
lacks_by_blank least text closing blank [] rest begins = closing rest begins.is
lacks_by_blank least text closing blank (c ∷ cs) rest begins = blank _ begins.is

pub lacks_by_child : (least : ℕ) (text next : List ℕ) → LacksByte 125 text → text ≡ 32 ∷ next → LacksChild next → LacksMore least text
lacks_by_child least text next closing e lacks [] rest begins = closing rest begins.is
lacks_by_child least text next closing e lacks (c ∷ cs) rest begins =
    lacks c (more_children_text cs rest) (record { short = begins.short.0; stops = more-stops cs rest; is = tails _ _ _ _ (sym e ∙ begins.is) })

pub lacks_by_seat : (least : ℕ) (text next : List ℕ) (child : Child) (after : List ℕ) → LacksByte 125 text → text ≡ 32 ∷ next → BeginsChild next child after → seat_number child.winner < least → LacksMore least text
lacks_by_seat least text next child after closing e first low [] rest begins = closing rest begins.is
lacks_by_seat least text next child after closing e first low (c ∷ cs) rest begins =
    let same = first_child child c next after cs rest begins.short.0 first (tails _ _ _ _ (sym e ∙ begins.is)) in
    let seat : seat_number child.winner ≡ seat_number c.winner = ap (λ (k : Child). seat_number k.winner) same.0 in
    absurd (omega (arith, begins.rise.0))

pub lacks_by_more : (least : ℕ) (text next : List ℕ) (child : Child) (after : List ℕ) → LacksByte 125 text → text ≡ 32 ∷ next → BeginsChild next child after → LacksMore (seat_number child.winner + 1) after → LacksMore least text
lacks_by_more least text next child after closing e first lacks [] rest begins = closing rest begins.is
lacks_by_more least text next child after closing e first lacks (c ∷ cs) rest begins =
    let same = first_child child c next after cs rest begins.short.0 first (tails _ _ _ _ (sym e ∙ begins.is)) in
    lacks cs rest (record {
      rise = rw same.0 begins.rise.1;
      short = begins.short.1;
      is = same.1;
    })

pub more_read : (least : ℕ) (text next : List ℕ) (child : Child) (after : List ℕ) (more : List Child) (rest : List ℕ) → text ≡ 32 ∷ next → BeginsChild next child after → least ≤ seat_number child.winner → BeginsMore (seat_number child.winner + 1) after more rest → BeginsMore least text (child ∷ more) rest
more_read least text next child after more rest e first high begins = record {
  rise = (high, begins.rise);
  short = (first.short, begins.short);
  is = e ∙ ap (λ t. 32 ∷ t) (first.is ∙ ap (child_text child) begins.is);
}

pub lacks_children_by_child : (text : List ℕ) → LacksByte 125 text → LacksChild text → LacksChildren text
lacks_children_by_child text closing lacks [] rest begins = closing rest begins.is
lacks_children_by_child text closing lacks (c ∷ cs) rest begins =
    lacks c (more_children_text cs rest) (record { short = begins.short.0; stops = more-stops cs rest; is = begins.is })

pub lacks_children_by_more : (text : List ℕ) (child : Child) (after : List ℕ) → LacksByte 125 text → BeginsChild text child after → LacksMore (seat_number child.winner + 1) after → LacksChildren text
lacks_children_by_more text child after closing first lacks [] rest begins = closing rest begins.is
lacks_children_by_more text child after closing first lacks (c ∷ cs) rest begins =
    let same = first_child child c text after cs rest begins.short.0 first begins.is in
    lacks cs rest (record {
      rise = rw same.0 begins.rise.1;
      short = begins.short.1;
      is = same.1;
    })

pub children_read : (text : List ℕ) (child : Child) (after : List ℕ) (more : List Child) (rest : List ℕ) → BeginsChild text child after → BeginsMore (seat_number child.winner + 1) after more rest → BeginsChildren text (child ∷ more) rest
children_read text child after more rest first begins = record {
  rise = (omega arith, begins.rise);
  short = (first.short, begins.short);
  is = first.is ∙ ap (child_text child) begins.is;
}
