-- A record goes past a block.
use Rattle.std.proofs.Common.{◌≡◌, ℕ, ◌<◌, ◌⊎◌, inl, inr, refl, sym, ◌∙◌, ap, subst, arith}
use Rattle.std.proofs.lemmas.Bool.{cases_eq}
use Rattle.pattern_store.specs.declared.record.Record.{Record}
use Rattle.pattern_store.specs.declared.blocks.Block.{Block}
use Rattle.pattern_store.specs.Blocks.{record_at, Has, SetsPlace, Passes, LosesServed}
use Rattle.pattern_store.specs.Record.{IsServed}

module _ (old new : Block) (place : ℕ) (put : Record) (sets : SetsPlace old new place put) where
  -- what there is after a record is put into a place
  after_set : (r : Record) → Has new r → Has old r ⊎ (r ≡ put)
  after_set r has = elim (cases_eq has.place place) [
    | inl same ↦ inr (sym has.is ∙ ap (record_at new) same ∙ sets.here)
    | inr apart ↦ inl (record { place = has.place; is_place = has.is_place; is = sym (sets.elsewhere has.place has.is_place apart) ∙ has.is; known = has.known })
  ]

  -- and what is left there
  left_by_set : (r : Record) → Has old r → Has new r ⊎ (r ≡ record_at old place)
  left_by_set r has = elim (cases_eq has.place place) [
    | inl same ↦ inr (sym has.is ∙ ap (record_at old) same)
    | inr apart ↦ inl (record { place = has.place; is_place = has.is_place; is = sets.elsewhere has.place has.is_place apart ∙ has.is; known = has.known })
  ]

  -- into a free place
  pub passes_free : Passes old new put put
  passes_free = record { stays = after_set; moved = inr refl; list = sets.list }

  pub loses_free : (told : Record) → place < 4 → (record_at old place).need ≡ 0 → LosesServed told old new put put
  loses_free told is_place free = λ r known was. inl (elim was [
    | inl has ↦ elim (left_by_set r has) [
      | inl has ↦ inl has
      | inr e ↦ absurd (omega (arith, free, known, ap (λ (r : Record). r.need) e))
    ]
    | inr e ↦ inr e
  ])

  -- or into another one's, which goes on
  pub passes_taken : (other : Record) → place < 4 → other ≡ record_at old place → 0 < other.need → Passes old new put other
  passes_taken other is_place e known = record { stays = after_set; moved = inl (record { place = place; is_place = is_place; is = sym e; known = known }); list = sets.list }

  pub loses_taken : (told other : Record) → place < 4 → other ≡ record_at old place → LosesServed told old new put other
  loses_taken told other is_place e = λ r known was. inl (elim was [
    | inl has ↦ elim (left_by_set r has) [
      | inl has ↦ inl has
      | inr same ↦ inr (same ∙ sym e)
    ]
    | inr e ↦ inl (record { place = place; is_place = is_place; is = sets.here ∙ sym e; known = known })
  ])

  -- a place is made free
  pub passes_freed : (came : Record) → put.need ≡ 0 → Passes old new came came
  passes_freed came none = record {
    stays = λ r has. elim (after_set r has) [
      | inl has ↦ inl has
      | inr e ↦ absurd (omega (arith, none, has.known, ap (λ (r : Record). r.need) e))
    ];
    moved = inr refl;
    list = sets.list;
  }

  pub loses_freed : (told other came : Record) → other ≡ record_at old place → IsServed told other → LosesServed told old new came came
  loses_freed told other came e served = λ r known was. elim was [
    | inl has ↦ elim (left_by_set r has) [
      | inl has ↦ inl (inl has)
      | inr same ↦ inr (subst (IsServed told) (e ∙ sym same) served)
    ]
    | inr e ↦ inl (inr e)
  ]

-- one place after another
pub loses_then : (told : Record) (first second third : Block) (came goes then : Record) → LosesServed told first second came goes → LosesServed told second third goes then → LosesServed told first third came then
loses_then told first second third came goes then one two = λ r known was. elim (one r known was) [
  | inl stays ↦ two r known stays
  | inr served ↦ inr served
]

pub passes_then : (first second third : Block) (came goes then : Record) → Passes first second came goes → Passes second third goes then → Passes first third came then
passes_then first second third came goes then one two = record {
  stays = λ r has. elim (two.stays r has) [
    | inl had ↦ one.stays r had
    | inr e ↦ by_moved r e
  ];
  moved = elim two.moved [
    | inl had ↦ one.stays then had
    | inr e ↦ elim one.moved [
      | inl had ↦ inl (subst (Has first) (sym e) had)
      | inr f ↦ inr (e ∙ f)
    ]
  ];
  list = two.list ∙ one.list;
}
  where
    by_moved : (r : Record) → r ≡ goes → Has first r ⊎ (r ≡ came)
    by_moved r e = elim one.moved [
      | inl had ↦ inl (subst (Has first) (sym e) had)
      | inr f ↦ inr (e ∙ f)
    ]
