-- Each step at the channel keeps its rule.
use Rattle.std.proofs.Common.{◌≡◌, ◌≢◌, ◌⊎◌, ℕ, zero, suc, ◌+◌, ◌<◌, ◌≤◌, Bool, true, false, cond, eqb, List, [], ◌∷◌, ◌++◌, length, set, Option, None, Some, refl, sym, ap, ◌∙◌, subst, inl, inr, arith, length-append}
use Rattle.std.proofs.Math.ListN.{length-set}
use Rattle.std.proofs.lemmas.Bool.{eq-eqb, ne_eqb}
use mathlib.Core.Option.{some, some-injective, some-ne-none}
use lib.ListN.{get_elem?}
use Rattle.crossbeam_channel.specs.Fifo.{Pushes, Pops, Forks, Merges, Learns}
use Rattle.lease_book.specs.declared.events.Event.{Event}
use Rattle.lease_desk.specs.declared.messages.Message.{Message}
use Rattle.lease_desk.specs.declared.views.SeenMessage.{SeenMessage}
use Rattle.lease_desk.specs.declared.views.Custody.TheVariants.{Before, Empty, Holds}
use Rattle.lease_desk.specs.declared.views.View.{View}
use Rattle.lease_desk.specs.Views.{page_of, page_with, receipts_on, unopened, usher, blank, holding}
use Rattle.lease_desk.specs.Rule.{Where, within, out, AreBelow, Lies, custody_at, IsAmong, IsFinal, IsOf, Fits, IsOpen, IsKept}
use Rattle.lease_desk.specs.Steps.{Opens, Learned, Took, MayGive, HasChairs, receipts_told, gave, Gave, ushering, seated, spared, told_of, page_in, heard, Silent}
use Rattle.lease_desk.proofs.Lists.{set_else, below, each_set, each_added}
use Rattle.lease_desk.proofs.CustodyLaws.{not_before, holder_has, others_have, new_has, IsHolder, holds}
use Rattle.lease_desk.proofs.ReceiptLaws.{below_more, below_wide, below_push, none_from, from_other}
use Rattle.lease_desk.proofs.PageLaws.{none_later}

only_view : (token : ℕ) (v : View) → get_elem? (unopened ∷ []) token ≡ some v → (token ≡ 0) × (unopened ≡ v)
only_view zero v e = (refl, some-injective unopened v e)
only_view (suc token) v e = absurd (some-ne-none v (sym e))

-- a token that knows of a message shows that the desk is open
is_open : (items : List Message) (views : List View) (token : ℕ) (v : View) → (v.custody ≡ Before → ⊥) → get_elem? views token ≡ some v → IsKept items views → IsOpen items views
is_open items views token v knows at (inl before) =
    let only = only_view token v (subst (λ (l : List View). get_elem? l token ≡ some v) before.1 at) in
    absurd (knows (ap (λ (u : View). u.custody) (sym only.1)))
is_open items views token v knows at (inr open') = open'

-- the rule asks nothing of who is silent
pub silent : (token : ℕ) (v : View) → Learns IsKept token v (Silent v)
silent token v items views kept at = tt

opened_fits : (page : SeenMessage) (made : ℕ) → made ≡ 0 → Fits page within (λ _. 0) 0 made 0 (usher (Some page) 0)
opened_fits page made is = record {
  in_custody = refl;
  opened = λ opening e. let same : page ≡ opening = cc in record { terms = ap (λ (p : SeenMessage). p.book.terms) (sym same); before = ap (λ (p : SeenMessage). p.before) (sym same); chairs = ap (λ (p : SeenMessage). p.chairs) (sym same) };
  chair = λ k e. cc;
  ushers = λ n e. (refl, (let zero_is : 0 ≡ n = cc in sym zero_is ∙ sym is));
  told = λ last e. cc;
}

pub opens : (n token : ℕ) (message : Message) → message.makers.items ≡ [] → Pushes IsKept n token unopened message (Opens unopened message)
opens n token message nobody items views room (inl before) at =
    let page : SeenMessage = page_of message in
    let only = only_view token unopened (subst (λ (l : List View). get_elem? l token ≡ some unopened) before.1 at) in
    let after : set views token (usher (Some page) 0) ≡ usher (Some page) 0 ∷ [] = λ i. set (before.1 i) (only.0 i) (usher (Some page) 0) in (
      usher (Some page) 0,
      inr (record {
        page = page;
        at = within;
        seats = λ _. 0;
        usher = 0;
        made = 0;
        lies = (message, ap (λ l. l ++ message ∷ []) before.0, refl);
        among = tt;
        even = ap (λ (l : List ℕ). length l) nobody ∙ sym (ap (λ (l : List Event). length l) (none_later message nobody));
        listed = subst (AreBelow 0) (sym nobody) tt;
        bound = omega arith;
        fits = λ p v e. let last = first_view page p v (subst (λ (l : List View). get_elem? l p ≡ some v) after e) in subst (λ (y : ℕ × View). Fits page within (λ _. 0) 0 0 y.0 y.1) (λ i. (sym last.0 i, last.1 i)) (opened_fits page 0 refl);
      }),
      refl,
    )
  where
    first_view : (page : SeenMessage) (p : ℕ) (v : View) → get_elem? (usher (Some page) 0 ∷ []) p ≡ some v → (p ≡ 0) × (usher (Some page) 0 ≡ v)
    first_view page zero v e = (refl, some-injective (usher (Some page) 0) v e)
    first_view page (suc p) v e = absurd (some-ne-none v (sym e))
opens n token message nobody items views room (inr open') at =
    absurd (not_before open'.at token open'.page Before (open'.fits token unopened at).in_custody refl)

nothing_in : (message : Message) (items : List Message) → message ∷ items ≡ [] → ⊥
nothing_in message items e = cc

-- one token changes, and the rest stays
module _ (page : SeenMessage) (at : Where) (seats : ℕ → ℕ) (ushers made : ℕ) (views : List View) (token : ℕ) (v : View) (fits : (p : ℕ) (u : View) → get_elem? views p ≡ some u → Fits page at seats ushers made p u) (there : get_elem? views token ≡ some v) where
  -- what a taken message leaves of what another knows
  still_fits : (final : Bool) → at ≡ within → (p : ℕ) (u : View) → p ≢ token → get_elem? views p ≡ some u → Fits page (out final token) seats ushers made p u
  still_fits final inside p u apart e =
      let f = fits p u e in
      record {
        in_custody = f.in_custody ∙ ap (λ (w : Where). custody_at w p page) inside ∙ others_have final token p page apart;
        opened = f.opened;
        chair = f.chair;
        ushers = f.ushers;
        told = λ last e'. absurd (subst IsFinal inside (f.told last e').1);
      }

  taker_fits : (final : Bool) (taken : SeenMessage) → at ≡ within → taken ≡ page → Fits page (out final token) seats ushers made token (holding final taken v)
  taker_fits final taken inside same =
      let f = fits token v there in
      record {
        in_custody = ap (Holds final) same ∙ holder_has final token page;
        opened = f.opened;
        chair = f.chair;
        ushers = f.ushers;
        told = λ last e'. absurd (subst IsFinal inside (f.told last e').1);
      }

  learned : (taken : SeenMessage) → taken ≡ page → length page.makers ≡ length page.book.events → AreBelow made page.makers → made ≤ page.chairs → Learned v taken
  learned taken same even listed bound =
      let f = fits token v there in
      subst (Learned v) (sym same) (record {
        even = even;
        opened = f.opened;
        chair = λ k e. (f.chair k e).2;
        listed = below_wide made page.chairs page.makers bound listed;
      })

takes_from : (final : Bool) (token : ℕ) (v : View) (x : Message) (items : List Message) (views : List View) (at : Where) (open' : IsOpen (x ∷ items) views) → open'.at ≡ at → Lies at (x ∷ items) open'.page → get_elem? views token ≡ some v
    → (w : View) × IsKept items (set views token w) × Took final v x w
takes_from final token v x items views (out f holder) open' at_is lies there = absurd (nothing_in x items lies)
takes_from final token v x items views within open' at_is lies there =
    let page : SeenMessage = open'.page in
    let is_x : x ≡ lies.0 = let e : x ∷ items ≡ lies.0 ∷ [] = lies.1 in cc in
    let none : items ≡ [] = let e : x ∷ items ≡ lies.0 ∷ [] = lies.1 in cc in
    let same : page_of x ≡ page = ap page_of is_x ∙ lies.2 in
    let w : View = holding final (page_of x) v in (
      w,
      inr (record {
        page = page;
        at = out final token;
        seats = open'.seats;
        usher = open'.usher;
        made = open'.made;
        lies = none;
        among = (let k = below views token v there in omega (arith, length-set views token w));
        even = open'.even;
        listed = open'.listed;
        bound = open'.bound;
        fits = each_set (Fits page (out final token) open'.seats open'.usher open'.made) views token w
            (still_fits page open'.at open'.seats open'.usher open'.made views token v open'.fits there final at_is)
            (taker_fits page open'.at open'.seats open'.usher open'.made views token v open'.fits there final (page_of x) at_is same);
      }),
      record { holds = refl; learned = learned page open'.at open'.seats open'.usher open'.made views token v open'.fits there (page_of x) same open'.even open'.listed open'.bound },
    )

pub takes : (final : Bool) (token : ℕ) (v : View) → (v.custody ≡ Before → ⊥) → Pops IsKept token v (Took final v)
takes final token v knows x items views kept there =
    let open' = is_open (x ∷ items) views token v knows there kept in
    takes_from final token v x items views open'.at open' refl open'.lies there

-- what is given back follows what was taken: the same, or one event more, which is listed under the giver's number
pub record Follows (held page : SeenMessage) (number : ℕ) : Type 0 where
  pub of : IsOf held page
  pub even : length held.makers ≡ length held.book.events → length page.makers ≡ length page.book.events
  pub listed : (bound : ℕ) → number < bound → AreBelow bound held.makers → AreBelow bound page.makers
  pub others : (k : ℕ) → k ≢ number → length held.makers ≡ length held.book.events → receipts_on held k ≡ receipts_on page k

pub follows_same : (held page : SeenMessage) (number : ℕ) → page ≡ held → Follows held page number
follows_same held page number same =
    subst (λ (p : SeenMessage). Follows held p number) (sym same) (record { of = record { terms = refl; before = refl; chairs = refl }; even = λ e. e; listed = λ bound below' b. b; others = λ k apart even. refl })

pub follows_event : (held page : SeenMessage) (number : ℕ) (event : Event) → page ≡ page_with held number event → Follows held page number
follows_event held page number event same =
    subst (λ (p : SeenMessage). Follows held p number) (sym same) (record {
      of = record { terms = refl; before = refl; chairs = refl };
      even = λ e. omega (arith, length-append held.makers (number ∷ []), length-append held.book.events (event ∷ []));
      listed = λ bound below' b. below_push bound number held.makers below' b;
      others = λ k apart even. sym (from_other k number (length held.before) held.makers held.book.events event even apart);
    })

other_chair : (seats : ℕ → ℕ) (k number p token : ℕ) → seats k ≡ p → seats number ≡ token → p ≢ token → k ≢ number
other_chair seats k number p token mine his apart e = apart (sym mine ∙ ap seats e ∙ his)

gives_from : (n token : ℕ) (v : View) (held : SeenMessage) (number : ℕ) (x : Message) (items : List Message) (views : List View) (open' : IsOpen items views) → IsHolder false held open'.at token open'.page → v.number ≡ Some number → v.made ≡ None → Follows held (page_of x) number → get_elem? views token ≡ some v
    → (w : View) × IsKept (items ++ x ∷ []) (set views token w) × Gave v x w
gives_from n token v held number x items views open' holder is_number is_none follows there =
    let page : SeenMessage = page_of x in
    let mine = open'.fits token v there in
    let my_chair = mine.chair number is_number in
    let none : items ≡ [] = subst (λ (at : Where). Lies at items open'.page) holder.at_is open'.lies in
    let even : length held.makers ≡ length held.book.events = subst (λ (p : SeenMessage). length p.makers ≡ length p.book.events) (sym holder.page_is) open'.even in
    let listed : AreBelow open'.made held.makers = subst (λ (p : SeenMessage). AreBelow open'.made p.makers) (sym holder.page_is) open'.listed in
    let of : IsOf open'.page page = subst (λ (p : SeenMessage). IsOf p page) holder.page_is follows.of in
    let not_final : IsFinal open'.at → ⊥ = λ f. subst IsFinal holder.at_is f in
    let w : View = gave v page in (
      w,
      inr (record {
        page = page;
        at = within;
        seats = open'.seats;
        usher = open'.usher;
        made = open'.made;
        lies = (x, ap (λ l. l ++ x ∷ []) none, refl);
        among = tt;
        even = follows.even even;
        listed = follows.listed open'.made my_chair.1 listed;
        bound = (let c = of.chairs in let b = open'.bound in omega arith);
        fits = each_set (Fits page within open'.seats open'.usher open'.made) views token w
            (λ p u apart e.
            let f = open'.fits p u e in
            record {
              in_custody = f.in_custody ∙ ap (λ (at : Where). custody_at at p open'.page) holder.at_is ∙ sym (others_have false token p open'.page apart);
              opened = λ opening e'. let o = f.opened opening e' in record { terms = o.terms ∙ of.terms; before = o.before ∙ of.before; chairs = o.chairs ∙ of.chairs };
              chair = λ k e'.
                  let c = f.chair k e' in
                  (c.0, c.1, c.2 ∙ ap (λ (p' : SeenMessage). receipts_on p' k) (sym holder.page_is) ∙ follows.others k (other_chair open'.seats k number p token c.0 my_chair.0 apart) even);
              ushers = f.ushers;
              told = λ last e'. absurd (not_final (f.told last e').1);
            })
            (record {
              in_custody = refl;
              opened = λ opening e'. let o = mine.opened opening e' in record { terms = o.terms ∙ of.terms; before = o.before ∙ of.before; chairs = o.chairs ∙ of.chairs };
              chair = λ k e'.
                  let c = mine.chair k e' in
                  (c.0, c.1, ap (λ (o : Option ℕ). receipts_told o page v.receipts) e');
              ushers = mine.ushers;
              told = λ last e'. absurd (not_final (mine.told last e').1);
            });
      }),
      refl,
    )

pub gives : (n token : ℕ) (v : View) (held : SeenMessage) (number : ℕ) (x : Message) → v.custody ≡ Holds false held → v.number ≡ Some number → v.made ≡ None → Follows held (page_of x) number → Pushes IsKept n token v x (Gave v x)
gives n token v held number x has is_number is_none follows items views room kept there =
    let open' = is_open items views token v (λ e. let both : Before ≡ Holds false held = sym e ∙ has in cc) there kept in
    let mine = open'.fits token v there in
    gives_from n token v held number x items views open' (holds false held open'.at token open'.page (sym has ∙ mine.in_custody)) is_number is_none follows there

may_give : (n token : ℕ) (v : View) (x : Message) → MayGive v (page_of x) → Pushes IsKept n token v x (Gave v x)
may_give n token v x may = gives n token v may.held may.number x may.has may.number_is may.no_usher (next may.next)
  where
    next : (page_of x ≡ may.held) ⊎ ((event : Event) × (page_of x ≡ page_with may.held may.number event)) → Follows may.held (page_of x) may.number
    next (inl same) = follows_same may.held (page_of x) may.number same
    next (inr added) = follows_event may.held (page_of x) may.number added.0 added.1

-- a token is cut off from one that stays as it is
forked : (token : ℕ) (v right : View) (items : List Message) (views : List View) (open' : IsOpen items views) → get_elem? views token ≡ some v → Fits open'.page open'.at open'.seats open'.usher open'.made (length views) right → IsOpen items (set views token v ++ right ∷ [])
forked token v right items views open' there new =
    let long : length (set views token v) ≡ length views = length-set views token v in
    let F : ℕ → View → Type 0 = Fits open'.page open'.at open'.seats open'.usher open'.made in
    record {
      page = open'.page;
      at = open'.at;
      seats = open'.seats;
      usher = open'.usher;
      made = open'.made;
      lies = open'.lies;
      among = among_more open'.at (length views) (length (set views token v ++ right ∷ [])) (omega (arith, length-append (set views token v) (right ∷ []))) open'.among;
      even = open'.even;
      listed = open'.listed;
      bound = open'.bound;
      fits = each_added F (set views token v) right (each_set F views token v (λ p u apart e. open'.fits p u e) (open'.fits token v there)) (subst (λ k. F k right) (sym long) new);
    }
  where
    among_more : (at : Where) (few many : ℕ) → few ≤ many → IsAmong at few → IsAmong at many
    among_more within few many le among = tt
    among_more (out final holder) few many le among = omega arith

pub spares : (token : ℕ) (v : View) → (v.custody ≡ Before → ⊥) → Forks IsKept token v v (spared v)
spares token v knows items views kept there =
    let open' = is_open items views token v knows there kept in
    let mine = open'.fits token v there in
    inr (forked token v (spared v) items views open' there (record {
      in_custody = new_has open'.at (length views) open'.page open'.among;
      opened = mine.opened;
      chair = λ k e. cc;
      ushers = λ k e. cc;
      told = λ last e. cc;
    }))

pub tells : (token : ℕ) (v : View) (held : SeenMessage) → v.custody ≡ Holds true held → Forks IsKept token v v (told_of v)
tells token v held has items views kept there =
    let open' = is_open items views token v (λ e. let both : Before ≡ Holds true held = sym e ∙ has in cc) there kept in
    let mine = open'.fits token v there in
    let holder = holds true held open'.at token open'.page (sym has ∙ mine.in_custody) in
    inr (forked token v (told_of v) items views open' there (record {
      in_custody = new_has open'.at (length views) open'.page open'.among;
      opened = λ opening e. cc;
      chair = λ k e. cc;
      ushers = λ k e. cc;
      told = λ last e.
          let page_is : Some held ≡ Some last = ap page_in (sym has) ∙ e in
          ((let same : held ≡ last = cc in sym same ∙ holder.page_is), subst IsFinal (sym holder.at_is) tt);
    }))

-- where the chairs sit, once one more is made
seats_with : (ℕ → ℕ) → ℕ → ℕ → ℕ → ℕ
seats_with seats made token k = cond (eqb k made) token (seats k)

seats_old : (seats : ℕ → ℕ) (made token k : ℕ) → k ≢ made → seats_with seats made token k ≡ seats k
unfolding seats_with
seats_old seats made token k apart = ap (λ b. cond b token (seats k)) (ne_eqb k made apart)

seats_new : (seats : ℕ → ℕ) (made token : ℕ) → seats_with seats made token made ≡ token
unfolding seats_with
seats_new seats made token = ap (λ b. cond b token (seats made)) (eq-eqb made made refl)

pub seats : (token : ℕ) (opening : SeenMessage) (made : ℕ) → made < opening.chairs → Forks IsKept token (usher (Some opening) made) (ushering (usher (Some opening) made)) (seated (usher (Some opening) made))
seats token opening made room items views kept there =
    let v : View = usher (Some opening) made in
    let left : View = ushering v in
    let open' = is_open items views token v (λ e. cc) there kept in
    let mine = open'.fits token v there in
    let ushers = mine.ushers made refl in
    let of = mine.opened opening refl in
    let new : ℕ = length views in
    let long : length (set views token left) ≡ new = length-set views token left in
    let at_seats : ℕ → ℕ = seats_with open'.seats open'.made new in
    let F : ℕ → View → Type 0 = Fits open'.page open'.at at_seats open'.usher (open'.made + 1) in
    let made_is : made ≡ open'.made = ushers.1 in
    inr (record {
      page = open'.page;
      at = open'.at;
      seats = at_seats;
      usher = open'.usher;
      made = open'.made + 1;
      lies = open'.lies;
      among = among_more open'.at (length views) (length (set views token left ++ seated v ∷ [])) (omega (arith, length-append (set views token left) (seated v ∷ []))) open'.among;
      even = open'.even;
      listed = below_more open'.made open'.page.makers open'.listed;
      bound = (let c = of.chairs in omega arith);
      fits = each_added F (set views token left) (seated v)
          (each_set F views token left
          (λ p u apart e.
          let f = open'.fits p u e in
          record {
            in_custody = f.in_custody;
            opened = f.opened;
            chair = λ k e'.
                let c = f.chair k e' in
                let k_below : k < open'.made = c.1 in
                (seats_old open'.seats open'.made new k (λ same. omega arith) ∙ c.0, omega arith, c.2);
            ushers = λ n e'. absurd (apart ((f.ushers n e').0 ∙ sym ushers.0));
            told = f.told;
          })
          (record {
            in_custody = mine.in_custody;
            opened = mine.opened;
            chair = λ k e'. cc;
            ushers = λ n e'. (ushers.0, (let next : made + 1 ≡ n = cc in omega arith));
            told = mine.told;
          }))
          (subst (λ (p : ℕ). F p (seated v)) (sym long) (record {
            in_custody = new_has open'.at (length views) open'.page open'.among;
            opened = mine.opened;
            chair = λ k e'.
                let k_is : k ≡ open'.made = (let is : made ≡ k = cc in sym is ∙ made_is) in
                (ap at_seats k_is ∙ seats_new open'.seats open'.made new, omega arith, sym (none_from k open'.made (length open'.page.before) open'.page.makers open'.page.book.events open'.listed (omega arith)));
            ushers = λ n e'. cc;
            told = λ last e'. cc;
          }));
    })
  where
    among_more : (at : Where) (few many : ℕ) → few ≤ many → IsAmong at few → IsAmong at many
    among_more within few many le among = tt
    among_more (out final holder) few many le among = omega arith

pub seats_as : (token : ℕ) (v : View) (opening : Option SeenMessage) (made chairs : ℕ) → v ≡ usher opening made → HasChairs opening chairs → made < chairs → Forks IsKept token v (ushering v) (seated v)
seats_as token v None made chairs is has room = absurd has
seats_as token v (Some opening) made chairs is has room = subst (λ (u : View). Forks IsKept token u (ushering u) (seated u)) (sym is) (seats token opening made (omega (arith, has)))

pub hears : (token : ℕ) (v : View) (other : ℕ) (w : View) → (v.custody ≡ Before → ⊥) → w.custody ≡ Empty → Merges IsKept token v other w (heard v w) blank
hears token v other w knows empty items views kept there apart told_there =
    let both : View = heard v w in
    let open' = is_open items views token v knows there kept in
    let F : ℕ → View → Type 0 = Fits open'.page open'.at open'.seats open'.usher open'.made in
    let mine = open'.fits token v there in
    let his = open'.fits other w (sym (set_else views token other both apart) ∙ told_there) in
    inr (record {
      page = open'.page;
      at = open'.at;
      seats = open'.seats;
      usher = open'.usher;
      made = open'.made;
      lies = open'.lies;
      among = subst (λ n. IsAmong open'.at n) (sym (length-set (set views token both) other blank ∙ length-set views token both)) open'.among;
      even = open'.even;
      listed = open'.listed;
      bound = open'.bound;
      fits = each_set F (set views token both) other blank
          (λ p u _ e. each_set F views token both (λ p' u' _ e'. open'.fits p' u' e')
          (record { in_custody = mine.in_custody; opened = mine.opened; chair = mine.chair; ushers = mine.ushers; told = his.told }) p u e)
          (record {
            in_custody = sym empty ∙ his.in_custody;
            opened = λ opening e. cc;
            chair = λ k e. cc;
            ushers = λ n e. cc;
            told = λ last e. cc;
          });
    })

pub opens_as : (n token : ℕ) (v : View) (message first : Message) → v ≡ unopened → message ≡ first → first.makers.items ≡ [] → Pushes IsKept n token v message (Opens v message)
opens_as n token v message first is same nobody =
    subst (λ (y : View × Message). Pushes IsKept n token y.0 y.1 (Opens y.0 y.1)) (λ k. (sym is k, sym same k)) (opens n token first nobody)

pub may_give_as : (n token : ℕ) (v was : View) (message first : Message) → v ≡ was → message ≡ first → MayGive was (page_of first) → Pushes IsKept n token v message (Gave v message)
may_give_as n token v was message first is same may =
    subst (λ (y : View × Message). Pushes IsKept n token y.0 y.1 (Gave y.0 y.1)) (λ k. (sym is k, sym same k)) (may_give n token was first may)
