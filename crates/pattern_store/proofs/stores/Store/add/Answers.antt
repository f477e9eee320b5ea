use Rattle.std.proofs.Common.{◌∙◌, ◌++◌, ◌∷◌, [], ap, List, rules, Option, Vec, Global}
use Rattle.std.specs.Option.{option_map_or}
use Rattle.pattern_store.specs.declared.keys.Added.{Added}
use Rattle.pattern_store.proofs.Held.{adds_to, shown, shown-set_same, on_err}
use Rattle.pattern_store.proofs.SameKeys.{keys_equal, keys_equal-same, keys_equal-apart}
use Rattle.pattern_store.proofs.stores.Store.add.Goals as goal

-- the items of a list that may be there
abbrev items_or_none : Option (Vec Added Global) → List Added
items_or_none list = option_map_or (λ (v : Vec Added Global). v.items) list []

pub returns-in-Some-clause-ok : goal.returns-in-Some-clause-ok
returns-in-Some-clause-ok c =
    let found = rw c.in-Some.is at c.get_mut.ensures.value in
    rw (← c.self.view_is, ← c.key_of-key.ensures)
    (adds_to (λ v. v.items) keys_equal c.self.inside.lists.entries (c.get_mut.follows.lender c.push.new.self).entries c.key_of-key.result c.push.new.self
    (record { pattern = c.args.pattern; need = c.args.need; number = c.args.number }) (keys_equal-same c.key_of-key.result) (keys_equal-apart c.key_of-key.result)
    ((c.get_mut.follows.holds c.push.new.self).3 (search rules)).0
    (c.in_ok-push-in-Some.ensures.items ∙ ap (λ (l : Option (Vec Added Global)). items_or_none l ++ (record { pattern = c.args.pattern; need = c.args.need; number = c.args.number } ∷ [])) found))

pub returns-clause-ok : goal.returns-clause-ok
returns-clause-ok c =
    let found = rw c.in-None.is at c.get_mut.ensures.value in
    let updates = rw c.get_mut.follows.holds-at-none at c.in_ok-insert.ensures.updates.0 in
    rw (← c.self.view_is, ← c.key_of-key.ensures)
    (adds_to (λ v. v.items) keys_equal c.self.inside.lists.entries c.insert.new.self.entries c.key_of-key.result c.push-2.new.self
    (record { pattern = c.args.pattern; need = c.args.need; number = c.args.number }) (keys_equal-same c.key_of-key.result) (keys_equal-apart c.key_of-key.result)
    updates
    (c.in_ok-push.ensures.items ∙ ap (λ (l : List Added). l ++ (record { pattern = c.args.pattern; need = c.args.need; number = c.args.number } ∷ [])) (c.new-list.ensures.items ∙ ap items_or_none found)))

pub returns-in_err-push-in-Some-clause-err : goal.returns-in_err-push-in-Some-clause-err
returns-in_err-push-in-Some-clause-err c =
    let found = rw c.in-Some.is at c.get_mut.ensures.value in
    rw (← c.self.view_is) (on_err _ c.from_residual.result
    (ap (shown (λ (v : Vec Added Global). v.items)) (c.get_mut.follows.holds c.push.new.self).0
    ∙ shown-set_same (λ (v : Vec Added Global). v.items) (keys_equal c.key_of-key.result) c.self.inside.lists.entries c.push.new.self
    (λ v q. c.in_err-push-in-Some.ensures.items ∙ ap items_or_none (found ∙ q))))
