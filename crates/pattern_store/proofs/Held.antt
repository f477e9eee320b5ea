-- What a store shows of its map: each value by its items.
use Rattle.std.proofs.Common.{◌≡◌, ◌≢◌, Bool, true, false, cond, List, [], ◌∷◌, ◌++◌, map, Option, Some, refl, sym, ◌∙◌, ap}
use Rattle.std.proofs.Common.{Result, Ok, Err, OnErr}
use Rattle.std.specs.Option.{option_map_or}
use Rattle.std.specs.Map.{lookup, set_value}
use Rattle.pattern_store.specs.declared.keys.Key.{Key}
use Rattle.pattern_store.specs.declared.keys.Added.{Added}
use Rattle.pattern_store.specs.Stores.{Lists, list_at, AddsTo}

module _ {V : Type 0} (items : V → List Added) where
  -- the lists of a map
  abbrev pub shown : List (Key × V) → Lists
  shown es = map (λ (e : Key × V). (e.0, items e.1)) es

  -- the list under a key
  pub list_at-shown : (test : Key → Bool) (es : List (Key × V)) → list_at test (shown es) ≡ option_map_or items (lookup test es) []
  list_at-shown test [] = refl
  list_at-shown test (e ∷ es) = by (test e.0) (list_at-shown test es)
    where
      by : (b : Bool) → list_at test (shown es) ≡ option_map_or items (lookup test es) [] → cond b (items e.1) (list_at test (shown es)) ≡ option_map_or items (cond b (Some e.1) (lookup test es)) []
      by true h = refl
      by false h = h

  -- a value with the same items changes nothing
  pub shown-set_same : (test : Key → Bool) (es : List (Key × V)) (w : V) → ((v : V) → lookup test es ≡ Some v → items w ≡ items v) → shown (set_value test es w) ≡ shown es
  shown-set_same test [] w h = refl
  shown-set_same test (e ∷ es) w h = by (test e.0) refl (shown-set_same test es w)
    where
      by : (b : Bool) → test e.0 ≡ b → (((v : V) → lookup test es ≡ Some v → items w ≡ items v) → shown (set_value test es w) ≡ shown es) → shown (cond b ((e.0, w) ∷ es) (e ∷ set_value test es w)) ≡ shown (e ∷ es)
      by true p rest = ap (λ (l : List Added). (e.0, l) ∷ shown es) (h e.1 (ap (λ (b : Bool). cond b (Some e.1) (lookup test es)) p))
      by false p rest = ap (λ (r : Lists). (e.0, items e.1) ∷ r) (rest (λ v q. h v (ap (λ (b : Bool). cond b (Some e.1) (lookup test es)) p ∙ q)))

  -- one list gets an add, and the others stay
  pub adds_to : (eq : Key → Key → Bool) (old new : List (Key × V)) (key : Key) (w : V) (added : Added) → eq key key ≡ true → ((q : Key) → q ≢ key → eq key q ≡ false) →
      ((q : Key) → lookup (eq q) new ≡ cond (eq key q) (Some w) (lookup (eq q) old)) → items w ≡ option_map_or items (lookup (eq key) old) [] ++ (added ∷ []) → AddsTo eq (shown old) (shown new) key added
  adds_to eq old new key w added same apart updates pushed = record {
    this_list =
        list_at-shown (eq key) new
        ∙ (ap (λ (o : Option V). option_map_or items o []) (updates key ∙ ap (λ (b : Bool). cond b (Some w) (lookup (eq key) old)) same)
        ∙ (pushed ∙ ap (λ (l : List Added). l ++ (added ∷ [])) (sym (list_at-shown (eq key) old))));
    other_lists = λ other other_key.
        list_at-shown (eq other) new
        ∙ (ap (λ (o : Option V). option_map_or items o []) (updates other ∙ ap (λ (b : Bool). cond b (Some w) (lookup (eq other) old)) (apart other other_key))
        ∙ sym (list_at-shown (eq other) old));
  }

-- what holds anyway holds after an error
pub on_err : {A B : Type 0} (P : Type 0) (r : Result A B) → P → OnErr r P
on_err P (Ok a) p = tt
on_err P (Err e) p = p
