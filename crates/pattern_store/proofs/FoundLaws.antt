-- Lists have what they had, or what they are told.
use Rattle.std.proofs.Common.{◌≡◌, ℕ, zero, suc, ◌<◌, ◌≤◌, ◌⊎◌, inl, inr, List, [], ◌∷◌, ◌++◌, ◌+◌, ◌*◌, ◌%◌, length, set, slice_get, Some, refl, sym, ◌∙◌, ap, subst, arith}
use Rattle.std.specs.Option.{option_map_or}
use Rattle.std.proofs.lemmas.Bool.{cases_eq}
use Rattle.std.proofs.lemmas.List.{length-set, length-append}
use Rattle.std.proofs.lemmas.Option.{none-some}
use Rattle.pattern_store.specs.declared.record.Record.{Record}
use Rattle.pattern_store.specs.declared.blocks.List as lists
use Rattle.pattern_store.specs.declared.blocks.Block.{Block}
use Rattle.pattern_store.specs.Blocks.{record_at, Has, IsBlockOf, Passes}
use Rattle.pattern_store.specs.Shapes.{Shapes}
use Rattle.pattern_store.specs.Records.{Kept, IsBlockIn, Finds, record_of, nothing, Holds, HoldNothing, HoldsToo, Keeps, Goes}
use Rattle.pattern_store.proofs.ShapeLaws.{some_is, set_else, set_here, slice_get_set}

-- what is there where one more is added was, or is the one added
pushed_was : {A : Type 0} (xs : List A) (i : ℕ) (y x : A) → slice_get (xs ++ (y ∷ [])) i ≡ Some x → (slice_get xs i ≡ Some x) ⊎ (x ≡ y)
pushed_was [] zero y x h = inr (sym (some_is y x h))
pushed_was [] (suc i) y x h = absurd (none-some x h)
pushed_was (z ∷ xs) zero y x h = inl h
pushed_was (z ∷ xs) (suc i) y x h = pushed_was xs i y x h

-- what is in a place after a block is set
set_was : (blocks : List Block) (number : ℕ) (new : Block) (other : ℕ) (block : Block) → slice_get (set blocks number new) other ≡ Some block → (slice_get blocks other ≡ Some block) ⊎ (block ≡ new)
set_was blocks number new other block h = elim (cases_eq other number) [
  | inl e ↦ inr (set_here blocks number new block (ap (slice_get (set blocks number new)) (sym e) ∙ h))
  | inr apart ↦ inl (sym (set_else blocks number other new apart) ∙ h)
]

-- a record that is of no need is in no block
none_is : (r told : Record) → 0 < r.need → told.need ≡ 0 → r ≡ told → ⊥
none_is r told known none e = omega (arith, known, none, ap (λ (r : Record). r.need) e)

-- where what is told is of no need, lists have what they had
pub keeps_of : (old new : List Block) (list : lists.List) (told : Record) → HoldsToo old new list told → told.need ≡ 0 → (other : lists.List) (r : Record) → Holds new other r → Holds old other r
keeps_of old new list told too none other r holds = elim (too other r holds) [
  | inl was ↦ was
  | inr e ↦ absurd (none_is r told holds.has.known none e.1)
]

-- what lists have where a block of one takes the place of another
pub holds_put : (blocks : List Block) (number : ℕ) (new : Block) (list : lists.List) (told : Record) → IsBlockOf new list told → HoldsToo blocks (set blocks number new) list told
holds_put blocks number new list told is_new other r holds = elim (set_was blocks number new holds.number holds.block holds.is) [
  | inl was ↦ inl (record { number = holds.number; block = holds.block; is = was; of_list = holds.of_list; has = holds.has })
  | inr e ↦ inr (sym holds.of_list ∙ (ap (λ (b : Block). b.list) e ∙ is_new.of_list), is_new.only r (subst (λ (b : Block). Has b r) e holds.has))
]

-- this one has what it is told
pub holds_there : (blocks : List Block) (number : ℕ) (new : Block) (list : lists.List) (told : Record) → IsBlockOf new list told → number < length blocks → 0 < told.need → Holds (set blocks number new) list told
holds_there blocks number new list told is_new within known = record {
  number = number;
  block = new;
  is = slice_get_set blocks number new within;
  of_list = is_new.of_list;
  has = record { place = 0; is_place = omega arith; is = is_new.first; known = known };
}

-- or is added
pub holds_pushed : (blocks : List Block) (new : Block) (list : lists.List) (told : Record) → IsBlockOf new list told → HoldsToo blocks (blocks ++ (new ∷ [])) list told
holds_pushed blocks new list told is_new other r holds = elim (pushed_was blocks holds.number new holds.block holds.is) [
  | inl was ↦ inl (record { number = holds.number; block = holds.block; is = was; of_list = holds.of_list; has = holds.has })
  | inr e ↦ inr (sym holds.of_list ∙ (ap (λ (b : Block). b.list) e ∙ is_new.of_list), is_new.only r (subst (λ (b : Block). Has b r) e holds.has))
]

-- a block that is added with no record keeps all
pub keeps_pushed : (blocks : List Block) (new : Block) (list : lists.List) (told : Record) (room : ℕ) → IsBlockOf new list told → told.need ≡ 0 → length blocks < room → Keeps blocks (blocks ++ (new ∷ [])) room
keeps_pushed blocks new list told room is_new none few = record {
  stays = keeps_of blocks (blocks ++ (new ∷ [])) list told (holds_pushed blocks new list told is_new) none;
  within = inr (omega (arith, few, length-append blocks (new ∷ [])));
}

-- the record in a place of a block of a list is found there
pub finds_at : (kept : Kept) (list : lists.List) (need : ℕ) (Agrees : Record → Type 0) (number place found : ℕ) (block : Block) → IsBlockIn kept.blocks list number block → place < 4 → found ≡ number * 4 + place →
    need ≤ (record_at block place).need → 0 < (record_at block place).need → Agrees (record_at block place) → Finds kept list need Agrees found
finds_at kept list need Agrees number place found block at is_place is enough known agrees = record {
  holds = record { number = number; block = block; is = at.is; of_list = at.of_list; has = record { place = place; is_place = is_place; is = sym same; known = subst (λ (r : Record). 0 < r.need) (sym same) known } };
  enough = subst (λ (r : Record). need ≤ r.need) (sym same) enough;
  agrees = subst Agrees (sym same) agrees;
}
  where
    same : record_of kept.blocks found ≡ record_at block place
    same = ap (λ (n : ℕ). option_map_or (λ b. record_at b (found % 4)) (slice_get kept.blocks n) nothing) (omega (arith, is, is_place)) ∙ (ap (λ o. option_map_or (λ b. record_at b (found % 4)) o nothing) at.is ∙ ap (record_at block) (omega (arith, is, is_place)))

-- a record goes past a block of a list
pub goes_past : (shapes : Shapes) (blocks : List Block) (room number : ℕ) (old new : Block) (came goes : Record) → slice_get blocks number ≡ Some old → Passes old new came goes → (list : lists.List) → old.list ≡ list →
    Goes (record { shapes = shapes; blocks = blocks; room = room }) (record { shapes = shapes; blocks = set blocks number new; room = room }) list came goes
goes_past shapes blocks room number old new came goes at passes list of_list = record {
  shapes = refl;
  stays = λ other r holds. elim (set_was blocks number new holds.number holds.block holds.is) [
    | inl was ↦ inl (record { number = holds.number; block = holds.block; is = was; of_list = holds.of_list; has = holds.has })
    | inr e ↦ let same = sym holds.of_list ∙ (ap (λ (b : Block). b.list) e ∙ passes.list) in elim (passes.stays r (subst (λ (b : Block). Has b r) e holds.has)) [
      | inl had ↦ inl (record { number = number; block = old; is = at; of_list = sym same; has = had })
      | inr is ↦ inr (same ∙ of_list, is)
    ]
  ];
  moved = elim passes.moved [
    | inl had ↦ inl (record { number = number; block = old; is = at; of_list = of_list; has = had })
    | inr e ↦ inr e
  ];
  count = length-set blocks number new;
  room = refl;
}

-- a block whose only record is of no need shows nothing
pub holds_nothing : (block : Block) (list : lists.List) (first : Record) → IsBlockOf block list first → first.need ≡ 0 → HoldNothing (block ∷ [])
holds_nothing block list first is_new none other r holds =
    let has = subst (λ (b : Block). Has b r) (only_block holds.number holds.is) holds.has in
    none_is r first has.known none (is_new.only r has)
  where
    only_block : (number : ℕ) → slice_get (block ∷ []) number ≡ Some holds.block → holds.block ≡ block
    only_block zero h = sym (some_is block holds.block h)
    only_block (suc number) h = absurd (none-some holds.block h)
