-- Chairs that are compared one after another.
use Rattle.std.proofs.Common.{◌≡◌, ℕ, ◌+◌, ◌<◌, ◌≤◌, true, List, All, length, map, take, drop, get_or, set, sym, ap, ◌∙◌, subst, arith}
use Rattle.std.proofs.lemmas.List.{length-map, get_or-drop, set-get_or, take_all, drop-set-lt, drop-drop, map-set, take_more_set}
use Rattle.std.proofs.lemmas.List.Elements.{All-push}
use Rattle.lease_desk.specs.declared.chairs.Chair.{Chair}
use Rattle.lease_desk.specs.declared.receipts.Receipt.{Receipt}
use Rattle.lease_desk.specs.declared.views.SeenMessage.{SeenMessage}
use Rattle.lease_desk.specs.declared.views.Custody.{Custody}
use Rattle.lease_desk.specs.declared.views.Custody.TheVariants.{Holds}
use Rattle.lease_desk.specs.Desks.{shown_of}
use Rattle.lease_desk.specs.Closing.{IsCompared}

-- so many of the chairs are compared, and the others are as they were
pub record IsSettling (custody : Custody) (index : ℕ) (old new : List Chair) : Type 0 where
  pub rest : drop index new ≡ drop index old
  pub same : map shown_of new ≡ map shown_of old
  pub compared : (last : SeenMessage) → custody ≡ Holds true last → All (IsCompared last) (take index new)

-- one chair changes, but for what is shown of it
pub same_shown : (chairs : List Chair) (index : ℕ) (chair d : Chair) → shown_of chair ≡ shown_of (get_or chairs index d) → map shown_of (set chairs index chair) ≡ map shown_of chairs
same_shown chairs index chair d same =
    map-set shown_of chairs index chair
    ∙ ap (λ (s : ℕ × List Receipt). set (map shown_of chairs) index s) same
    ∙ sym (map-set shown_of chairs index (get_or chairs index d))
    ∙ ap (map shown_of) (set-get_or chairs index d)

module _ (custody : Custody) (index : ℕ) (old new : List Chair) (settling : IsSettling custody index old new) where
  pub as_long : length new ≡ length old
  as_long = sym (length-map new shown_of) ∙ ap (λ (l : List (ℕ × List Receipt)). length l) settling.same ∙ length-map old shown_of

  -- the next chair is as it was
  pub next_is : (d : Chair) → get_or new index d ≡ get_or old index d
  next_is d =
      ap (λ k. get_or new k d) (omega arith) ∙ sym (get_or-drop index new 0 d) ∙ ap (λ l. get_or l 0 d) settling.rest ∙ get_or-drop index old 0 d ∙ ap (λ k. get_or old k d) (omega arith)

  pub settled_more : (chair d : Chair) → index < length new → shown_of chair ≡ shown_of (get_or new index d) → ((last : SeenMessage) → custody ≡ Holds true last → IsCompared last chair) → IsSettling custody (index + 1) old (set new index chair)
  settled_more chair d within same compared = record {
    rest = drop-set-lt (index + 1) new index chair (omega arith) ∙ sym (drop-drop 1 index new) ∙ ap (drop 1) settling.rest ∙ drop-drop 1 index old;
    same = same_shown new index chair d same ∙ settling.same;
    compared = λ last e. subst (λ l. All (IsCompared last) l) (sym (take_more_set new index chair within)) (All-push (IsCompared last) (take index new) chair (settling.compared last e) (compared last e));
  }

  pub all_settled : length new ≤ index → (last : SeenMessage) → custody ≡ Holds true last → All (IsCompared last) new
  all_settled over last e = subst (λ l. All (IsCompared last) l) (take_all index new over) (settling.compared last e)
