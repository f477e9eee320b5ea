use Rattle.std.proofs.Common.{◌≡◌, ◌∷◌, ◌++◌, ◌≤◌, ℕ, List, length, drop, sym, ◌∙◌, ap, subst, append-nil}
use Rattle.std.proofs.lemmas.Bool.{eqb-false}
use Rattle.pbn_deals.specs.Lines.{without_return}
use Rattle.pbn_deals.specs.Pieces.{end_of, rows_of}
use Rattle.pbn_deals.proofs.FirstRows.{last_row, cut_row, cut_whole, cut_rest, bytes_within, rest_within}
use Rattle.pbn_deals.proofs.pieces.first_row.Goals as goal

pub returns-in_default : goal.returns-in_default
returns-in_default c =
    let text = c.args.text.now in
    record {
      rows = last_row text (λ e. eqb-false (length text) 0 (sym c.if-is_empty.ensures) (ap length e)) c.in_default.ensures;
      whole = sym (append-nil (text ++ _) ∙ append-nil text);
    }

pub split_at-requires : goal.split_at-requires
split_at-requires c =
    let found = c.in-Some in
    let within = bytes_within c.args.text.now found.part.now found.after.now found.ensures.0 found.ensures.1 in
    rw (sym c.without_return-bytes.ensures) at within

pub front_of-end-requires : goal.front_of-end-requires
front_of-end-requires c =
    let text = c.args.text.now in
    let found = c.in-Some in
    let within = rest_within text found.part.now found.after.now found.ensures.0 found.ensures.1 in
    subst (λ (rest : List ℕ). length found.after.now ≤ length rest)
    (sym (c.split_at.ensures.back ∙ ap (λ (bytes : List ℕ). drop (length bytes) text) c.without_return-bytes.ensures)) within

pub returns : goal.returns
returns c =
    let text = c.args.text.now in
    let found = c.in-Some in
    let part = found.part.now in
    let after = found.after.now in
    let bytes_are = c.without_return-bytes.ensures in
    let rest_is : c.split_at.result.1.now ≡ end_of part ++ after =
    c.split_at.ensures.back ∙ (ap (λ (bytes : List ℕ). drop (length bytes) text) bytes_are ∙ cut_rest text part after found.ensures.0 found.ensures.1) in
    let end_is : c.front_of-end.result.now ≡ end_of part = c.front_of-end.ensures (end_of part) rest_is in
    record {
      rows =
          cut_row text part after found.ensures.0 found.ensures.1
          ∙ sym (ap (λ (bytes : List ℕ). record { bytes = bytes; end = c.front_of-end.result.now } ∷ rows_of after) bytes_are ∙ ap (λ (end : List ℕ). record { bytes = without_return part; end = end } ∷ rows_of after) end_is);
      whole =
          cut_whole text part after found.ensures.0 found.ensures.1
          ∙ sym (ap (λ (bytes : List ℕ). (bytes ++ c.front_of-end.result.now) ++ after) bytes_are ∙ ap (λ (end : List ℕ). (without_return part ++ end) ++ after) end_is);
    }
