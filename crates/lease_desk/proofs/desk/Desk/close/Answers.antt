use Rattle.std.specs.Prelude.{option_to_list}
use Rattle.std.proofs.Common.{◌≡◌, [], ◌∷◌, ◌++◌, List, All, Option, Some, map, refl, sym, ap, ◌∙◌, subst}
use Rattle.lease_book.specs.Books.{Ledger}
use Rattle.lease_desk.specs.declared.chairs.Chair.{Chair}
use Rattle.lease_desk.specs.Desks.{IsChairOf, IsClosed, AreAll, terms_of, start_of, opening_of, number_of}
use Rattle.lease_desk.specs.Closing.{IsCollected}
use Rattle.lease_desk.proofs.ClosingLaws.{closed_desk, closed_idle, idle_is, written_back}
use Rattle.lease_desk.proofs.desk.Desk.close.Goals as goal
use Rattle.lease_desk.proofs.desk.Desk.close.Goals.{in-Some, in-None}

pub collect-book-requires-clause-seated : goal.collect-book-requires-clause-seated
collect-book-requires-clause-seated g c = record {
  opening = Some (opening_of c.args.self);
  each = subst (λ (l : List Chair). All (IsChairOf c.args.self) l) (sym c.as_mut_slice.ensures.value) c.requires.each;
}

pub returns : goal.returns
returns g c =
    let desk = c.args.self in
    let chairs : List Chair = c.args.chairs.items in
    let opening = opening_of desk in
    let book : Ledger = c.match-pop.book in
    elim c.match-pop.branch [
      | in-Some w ↦
          let opened : Ledger = record { terms = terms_of desk; events = start_of desk } in
          let popped : Option Ledger = c.pop.result in
          let last : desk.idle.items ≡ c.pop.new.self.items ++ w.in-Some.book ∷ [] = c.pop.ensures.items ∙ ap (λ (o : Option Ledger). c.pop.new.self.items ++ option_to_list o) w.in-Some.is in
          let known = idle_is desk.chairs opened w.in-Some.book desk.idle.items c.pop.new.self.items desk.idle_is last in
          let none : desk.chairs ≡ 0 = known.0 in
          let new : book ≡ opened = w.book-is ∙ known.1 in
          subst (λ (l : List Chair). IsClosed (terms_of desk) (start_of desk) chairs book l) (sym (ap (λ v. v.items) w.chairs-is))
          (closed_idle (terms_of desk) (start_of desk) chairs book new (subst (λ n. AreAll n (map number_of chairs)) none c.requires.all) c.history-legal.ensures.legal)
      | in-None w ↦
          let after : List Chair = w.collect-book.new.chairs in
          let collected : IsCollected (Some opening) chairs after book =
          subst (λ (y : List Chair × Ledger). IsCollected (Some opening) y.0 after y.1) (λ i. (w.as_mut_slice.ensures.value i, sym w.book-is i))
          (w.collect-book.ensures (Some opening) (subst (λ (l : List Chair). All (IsChairOf desk) l) (sym w.as_mut_slice.ensures.value) c.requires.each)) in
          subst (λ (l : List Chair). IsClosed (terms_of desk) (start_of desk) chairs book l) (sym (ap (λ v. v.items) w.chairs-is ∙ written_back chairs after c.args.chairs.len (sym c.args.chairs.ok.0) collected.same))
          (closed_desk (terms_of desk) (start_of desk) desk.chairs chairs after book opening refl refl refl c.requires.all collected c.history-legal.ensures.legal)
    ]
