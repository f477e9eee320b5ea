use Rattle.std.proofs.Common.{sym, ◌∙◌}
use Rattle.evidence.proofs.GraphLines.{one_graphs}
use Rattle.play_evidence.proofs.SectionLemmas.{same_nodes}
use Rattle.play_evidence.proofs.finding.find_bundle.Goals as goal

pub returns-in_default : goal.returns-in_default
returns-in_default c = λ section is e.
    let none = rw c.in_default.is at c.in_ok-claims.ensures in
    none section.claims _ is.claims_are e

pub returns-in_default-2 : goal.returns-in_default-2
returns-in_default-2 c = λ section is e.
    let claims = (rw c.in-Some.is at c.in_ok-claims.ensures) section.claims _ is.claims_are e in
    let none = rw c.in_default-2.is at c.in_ok-ns_begun.ensures in
    none section.ns.begun _ is.ns_are.begun_are claims.1

pub returns-in_default-3 : goal.returns-in_default-3
returns-in_default-3 c = λ section is e.
    let claims = (rw c.in-Some.is at c.in_ok-claims.ensures) section.claims _ is.claims_are e in
    let ns = (rw c.in-Some-2.is at c.in_ok-ns_begun.ensures) section.ns.begun _ is.ns_are.begun_are claims.1 in
    let none = rw c.in_default-3.is at c.in_ok-ew_begun.ensures in
    none section.ew.begun _ is.ew_are.begun_are ns.1

pub returns-in_default-4 : goal.returns-in_default-4
returns-in_default-4 c = λ section is e.
    let claims = (rw c.in-Some.is at c.in_ok-claims.ensures) section.claims _ is.claims_are e in
    let ns = (rw c.in-Some-2.is at c.in_ok-ns_begun.ensures) section.ns.begun _ is.ns_are.begun_are claims.1 in
    let ew = (rw c.in-Some-3.is at c.in_ok-ew_begun.ensures) section.ew.begun _ is.ew_are.begun_are ns.1 in
    let none = rw c.in_default-4.is at c.in_ok-ns.ensures in
    none section.ns.graph section.ew.graph is.ns_are.graph_is.graph is.ew_are.graph_is.graph ew.1

pub returns : goal.returns
returns c = λ section is e.
    let claims = (rw c.in-Some.is at c.in_ok-claims.ensures) section.claims _ is.claims_are e in
    let ns = (rw c.in-Some-2.is at c.in_ok-ns_begun.ensures) section.ns.begun _ is.ns_are.begun_are claims.1 in
    let ew = (rw c.in-Some-3.is at c.in_ok-ew_begun.ensures) section.ew.begun _ is.ew_are.begun_are ns.1 in
    let read = rw c.in-Some-4.is at c.in_ok-ns.ensures in
    let graphs = one_graphs _ _ section.ns.graph section.ew.graph read.0 read.1 is.ns_are.graph_is.graph is.ew_are.graph_is.graph (sym read.2 ∙ ew.1) in
    record {
      claims = claims.0;
      ns = same_nodes _ _ section.ns graphs.0 ns.0;
      ew = same_nodes _ _ section.ew graphs.1 ew.0;
    }
