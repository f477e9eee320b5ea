use Rattle.lease_book.proofs.SettlingLaws.{holder_is, settled_more}
use Rattle.lease_laws.proofs.books.may_give_up_unsettled.Goals as goal

pub returns : goal.returns
returns c terms events place lease reply legal holds none once =
    let holder = holder_is events place lease holds in
    settled_more terms events lease holder.grant reply legal holder.held holder.number_is none once
