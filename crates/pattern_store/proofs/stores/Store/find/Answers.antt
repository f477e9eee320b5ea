use Rattle.std.proofs.Common.{◌≡◌, ◌∙◌, ap, sym, List, [], MatchOption, subst, Option, Vec, Global}
use Rattle.std.specs.Option.{option_map_or}
use Rattle.patterns.specs.Shapes.{Shape}
use Rattle.pattern_store.specs.Lengths.{lengths_of, layout_lengths}
use Rattle.pattern_store.specs.Stores.{NoneServes, FirstServes}
use Rattle.pattern_store.specs.declared.keys.Added.{Added}
use Rattle.pattern_store.proofs.Firsts.{none_of_none}
use Rattle.pattern_store.proofs.Held.{list_at-shown}
use Rattle.pattern_store.proofs.SameKeys.{keys_equal}
use Rattle.pattern_store.proofs.stores.Store.find.Goals as goal

-- the items of a list that may be there
abbrev items_or_none : Option (Vec Added Global) → List Added
items_or_none list = option_map_or (λ (v : Vec Added Global). v.items) list []

pub returns-in-Some : goal.returns-in-Some
returns-in-Some c =
    let same : c.key_of-key.result ≡ record { lengths = layout_lengths c.args.layout.now; lead = c.args.lead; side = c.args.side } =
    c.key_of-key.ensures ∙ ap (λ (s : Shape). record { lengths = lengths_of s; lead = c.args.lead; side = c.args.side }) c.of_layout.ensures.shape in
    let found = rw c.in-Some.is at c.get.ensures.value in
    rw (← c.self.view_is, ← same)
    (subst (λ (l : List Added). MatchOption c.first_served.result (NoneServes c.args.layout.now c.args.need l) (FirstServes c.args.layout.now c.args.need l))
    (c.as_slice.ensures.value ∙ (ap items_or_none found ∙ sym (list_at-shown (λ (v : Vec Added Global). v.items) (keys_equal c.key_of-key.result) c.self.inside.lists.entries))) c.first_served.ensures)

pub returns-in-None : goal.returns-in-None
returns-in-None c =
    let same : c.key_of-key.result ≡ record { lengths = layout_lengths c.args.layout.now; lead = c.args.lead; side = c.args.side } =
    c.key_of-key.ensures ∙ ap (λ (s : Shape). record { lengths = lengths_of s; lead = c.args.lead; side = c.args.side }) c.of_layout.ensures.shape in
    let found = rw c.in-None.is at c.get.ensures.value in
    rw (← c.self.view_is, ← same)
    (subst (λ (l : List Added). NoneServes c.args.layout.now c.args.need l)
    (ap items_or_none found ∙ sym (list_at-shown (λ (v : Vec Added Global). v.items) (keys_equal c.key_of-key.result) c.self.inside.lists.entries)) (none_of_none c.args.layout.now c.args.need))
