-- Who has the message in hand.
use Rattle.std.proofs.Common.{◌≡◌, ◌≢◌, ℕ, Bool, true, false, eqb, refl, sym, ap, ◌∙◌, arith}
use Rattle.std.proofs.lemmas.Bool.{eqb-true, eq-eqb, ne_eqb}
use Rattle.lease_desk.specs.declared.views.SeenMessage.{SeenMessage}
use Rattle.lease_desk.specs.declared.views.Custody.{Custody}
use Rattle.lease_desk.specs.declared.views.Custody.TheVariants.{Before, Empty, Holds}
use Rattle.lease_desk.specs.Rule.{Where, within, out, custody_if, custody_at, IsAmong}

if_not_before : (b final : Bool) (page : SeenMessage) → Before ≡ custody_if b final page → ⊥
if_not_before true final page e = cc
if_not_before false final page e = cc

pub not_before : (at : Where) (token : ℕ) (page : SeenMessage) (custody : Custody) → custody ≡ custody_at at token page → custody ≡ Before → ⊥
not_before within token page custody e b = cc
not_before (out final holder) token page custody e b = if_not_before (eqb holder token) final page (sym b ∙ e)

-- who has it, has it in hand
pub holder_has : (final : Bool) (token : ℕ) (page : SeenMessage) → Holds final page ≡ custody_at (out final token) token page
holder_has final token page = ap (λ b. custody_if b final page) (sym (eq-eqb token token refl))

-- the others don't
pub others_have : (final : Bool) (holder token : ℕ) (page : SeenMessage) → token ≢ holder → Empty ≡ custody_at (out final holder) token page
others_have final holder token page apart = ap (λ b. custody_if b final page) (sym (ne_eqb holder token (λ e. apart (sym e))))

-- nor does a new token
pub new_has : (at : Where) (count : ℕ) (page : SeenMessage) → IsAmong at count → Empty ≡ custody_at at count page
new_has within count page among = refl
new_has (out final holder) count page among = others_have final holder count page (λ e. omega arith)

-- the token with this page in hand holds the message
pub record IsHolder (final : Bool) (held : SeenMessage) (at : Where) (token : ℕ) (page : SeenMessage) : Type 0 where
  pub at_is : at ≡ out final token
  pub page_is : held ≡ page

if_holds : (b final_held final : Bool) (held page : SeenMessage) → Holds final_held held ≡ custody_if b final page → (b ≡ true) × (final_held ≡ final) × (held ≡ page)
if_holds true final_held final held page e = (refl, cc, cc)
if_holds false final_held final held page e = cc

pub holds : (final : Bool) (held : SeenMessage) (at : Where) (token : ℕ) (page : SeenMessage) → Holds final held ≡ custody_at at token page → IsHolder final held at token page
holds final held within token page e = cc
holds final held (out f holder) token page e =
    let h = if_holds (eqb holder token) final f held page e in
    record { at_is = (λ i. out (sym h.1 i) (eqb-true holder token h.0 i)); page_is = h.2 }
