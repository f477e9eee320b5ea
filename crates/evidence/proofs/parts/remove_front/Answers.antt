use Rattle.std.proofs.Common.{◌≡◌, ◌+◌, ◌-◌, List, ℕ, length, take, drop, ap, ◌∙◌, arith, length-drop, take_all}
use lib.Seq.{paste}
use Rattle.std.proofs.lemmas.List.Edits.{take-paste}
use Rattle.evidence.proofs.parts.remove_front.Goals as goal

pub returns : goal.returns
returns c =
    let all : List ℕ = c.args.bytes.now.items in
    let count = c.args.count in
    let left = c.args.bytes.now.len - count in
    let many = c.args.bytes.now.ok.0 in
    let same : left ≡ 0 + left = omega arith in
    let rest : length (drop count all) ≡ left = omega (arith, length-drop count all) in
    let size : c.len.result - count ≡ left = ap (λ n. n - count) c.len.ensures in
    c.truncate.ensures.items ∙ ap (λ n. take n c.copy_within.new.self.items) size ∙ ap (take left) c.copy_within.ensures.items
    ∙ ap (λ k. take k (paste all 0 (drop count all) left)) same ∙ take-paste all 0 (drop count all) left (omega arith) (omega (arith, rest))
    ∙ take_all left (drop count all) (omega (arith, rest))
