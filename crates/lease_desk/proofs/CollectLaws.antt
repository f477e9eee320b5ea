-- What is known once all receipts were compared.
use Rattle.std.proofs.Common.{◌≡◌, ◌<◌, true, List, All, length, map, get_or, Option, refl, sym, ap, ◌∙◌}
use Rattle.crossbeam_channel.specs.Claims.{view}
use Rattle.lease_desk.specs.declared.messages.Message.{Message}
use Rattle.lease_desk.specs.declared.views.SeenMessage.{SeenMessage}
use Rattle.lease_desk.specs.declared.views.Custody.TheVariants.{Before, Empty, Holds}
use Rattle.lease_desk.specs.declared.views.View.{View}
use Rattle.lease_desk.specs.declared.ends.DeskEnds.{DeskEnds}
use Rattle.lease_desk.specs.declared.chairs.Chair.{Chair}
use Rattle.lease_desk.specs.Views.{page_of}
use Rattle.lease_desk.specs.Steps.{Took, spared}
use Rattle.lease_desk.specs.Desks.{IsChairAt, shown_of}
use Rattle.lease_desk.specs.Closing.{IsCollected, IsCompared}
use Rattle.lease_desk.proofs.PageLaws.{whole_history}

pub sits_empty : (ends : DeskEnds) (opening : Option SeenMessage) (chair : Chair) → IsChairAt ends opening chair → (view chair.token).custody ≡ Before → ⊥
sits_empty ends opening chair is e =
    let both : Before ≡ Empty = sym e ∙ ap (λ (v : View). v.custody) is.knows in cc

pub collected : (ends : DeskEnds) (opening : Option SeenMessage) (chairs after closed : List Chair) (first : Chair) (own spare : View) (message : Message) → All (IsChairAt ends opening) chairs → 0 < length chairs → own ≡ spared (view (get_or chairs 0 first).token) → Took true own message spare
    → map shown_of after ≡ map shown_of chairs → map shown_of closed ≡ map shown_of after
    → ((last : SeenMessage) → spare.custody ≡ Holds true last → All (IsCompared last) closed)
    → IsCollected opening chairs closed message.book
collected ends opening chairs after closed first own spare message each some is took before same compared =
    let page : SeenMessage = page_of message in
    let knows = (each 0 first some).knows in
    let opening_is : own.opening ≡ opening = ap (λ (v : View). v.opening) is ∙ ap (λ (v : View). v.opening) knows in
    record {
      page = page;
      terms_are = refl;
      events_are = sym (whole_history message);
      of = λ opened e. took.learned.opened opened (opening_is ∙ e);
      even = took.learned.even;
      listed = took.learned.listed;
      same = same ∙ before;
      compared = compared page (ap (λ (v : View). v.custody) took.holds);
    }
