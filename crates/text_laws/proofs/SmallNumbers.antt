-- Numbers up to twenty, digit by digit.
use Rattle.std.proofs.Common.{ℕ, zero, suc, ◌≤◌, List, sym, subst, arith}
use Rattle.std.specs.Prelude.{codes}
use Rattle.std.specs.Fmt.{decimal}
use Rattle.std.proofs.lemmas.Fmt.{decimal_digit}
use Rattle.cards.proofs.NumberLemmas.{decimal_two}

-- what holds of each number and its digits
pub for_small : (P : ℕ → List ℕ → Type 0) → P 0 (codes "0") → P 1 (codes "1") → P 2 (codes "2") → P 3 (codes "3") → P 4 (codes "4") → P 5 (codes "5") → P 6 (codes "6") → P 7 (codes "7") → P 8 (codes "8") → P 9 (codes "9") → P 10 (codes "10") → P 11 (codes "11") → P 12 (codes "12") → P 13 (codes "13") → P 14 (codes "14") → P 15 (codes "15") → P 16 (codes "16") → P 17 (codes "17") → P 18 (codes "18") → P 19 (codes "19") → P 20 (codes "20") → (n : ℕ) → n ≤ 20 → P n (decimal n)
for_small P p0 p1 p2 p3 p4 p5 p6 p7 p8 p9 p10 p11 p12 p13 p14 p15 p16 p17 p18 p19 p20 zero h = subst (λ (text : List ℕ). P 0 text) (sym (decimal_digit 0 (omega arith))) p0
for_small P p0 p1 p2 p3 p4 p5 p6 p7 p8 p9 p10 p11 p12 p13 p14 p15 p16 p17 p18 p19 p20 (suc zero) h = subst (λ (text : List ℕ). P 1 text) (sym (decimal_digit 1 (omega arith))) p1
for_small P p0 p1 p2 p3 p4 p5 p6 p7 p8 p9 p10 p11 p12 p13 p14 p15 p16 p17 p18 p19 p20 (suc (suc zero)) h = subst (λ (text : List ℕ). P 2 text) (sym (decimal_digit 2 (omega arith))) p2
for_small P p0 p1 p2 p3 p4 p5 p6 p7 p8 p9 p10 p11 p12 p13 p14 p15 p16 p17 p18 p19 p20 (suc (suc (suc zero))) h = subst (λ (text : List ℕ). P 3 text) (sym (decimal_digit 3 (omega arith))) p3
for_small P p0 p1 p2 p3 p4 p5 p6 p7 p8 p9 p10 p11 p12 p13 p14 p15 p16 p17 p18 p19 p20 (suc (suc (suc (suc zero)))) h = subst (λ (text : List ℕ). P 4 text) (sym (decimal_digit 4 (omega arith))) p4
for_small P p0 p1 p2 p3 p4 p5 p6 p7 p8 p9 p10 p11 p12 p13 p14 p15 p16 p17 p18 p19 p20 (suc (suc (suc (suc (suc zero))))) h = subst (λ (text : List ℕ). P 5 text) (sym (decimal_digit 5 (omega arith))) p5
for_small P p0 p1 p2 p3 p4 p5 p6 p7 p8 p9 p10 p11 p12 p13 p14 p15 p16 p17 p18 p19 p20 (suc (suc (suc (suc (suc (suc zero)))))) h = subst (λ (text : List ℕ). P 6 text) (sym (decimal_digit 6 (omega arith))) p6
for_small P p0 p1 p2 p3 p4 p5 p6 p7 p8 p9 p10 p11 p12 p13 p14 p15 p16 p17 p18 p19 p20 (suc (suc (suc (suc (suc (suc (suc zero))))))) h = subst (λ (text : List ℕ). P 7 text) (sym (decimal_digit 7 (omega arith))) p7
for_small P p0 p1 p2 p3 p4 p5 p6 p7 p8 p9 p10 p11 p12 p13 p14 p15 p16 p17 p18 p19 p20 (suc (suc (suc (suc (suc (suc (suc (suc zero)))))))) h = subst (λ (text : List ℕ). P 8 text) (sym (decimal_digit 8 (omega arith))) p8
for_small P p0 p1 p2 p3 p4 p5 p6 p7 p8 p9 p10 p11 p12 p13 p14 p15 p16 p17 p18 p19 p20 (suc (suc (suc (suc (suc (suc (suc (suc (suc zero))))))))) h = subst (λ (text : List ℕ). P 9 text) (sym (decimal_digit 9 (omega arith))) p9
for_small P p0 p1 p2 p3 p4 p5 p6 p7 p8 p9 p10 p11 p12 p13 p14 p15 p16 p17 p18 p19 p20 (suc (suc (suc (suc (suc (suc (suc (suc (suc (suc zero)))))))))) h = subst (λ (text : List ℕ). P 10 text) (sym (decimal_two 10 (omega arith) (omega arith))) p10
for_small P p0 p1 p2 p3 p4 p5 p6 p7 p8 p9 p10 p11 p12 p13 p14 p15 p16 p17 p18 p19 p20 (suc (suc (suc (suc (suc (suc (suc (suc (suc (suc (suc zero))))))))))) h = subst (λ (text : List ℕ). P 11 text) (sym (decimal_two 11 (omega arith) (omega arith))) p11
for_small P p0 p1 p2 p3 p4 p5 p6 p7 p8 p9 p10 p11 p12 p13 p14 p15 p16 p17 p18 p19 p20 (suc (suc (suc (suc (suc (suc (suc (suc (suc (suc (suc (suc zero)))))))))))) h = subst (λ (text : List ℕ). P 12 text) (sym (decimal_two 12 (omega arith) (omega arith))) p12
for_small P p0 p1 p2 p3 p4 p5 p6 p7 p8 p9 p10 p11 p12 p13 p14 p15 p16 p17 p18 p19 p20 (suc (suc (suc (suc (suc (suc (suc (suc (suc (suc (suc (suc (suc zero))))))))))))) h = subst (λ (text : List ℕ). P 13 text) (sym (decimal_two 13 (omega arith) (omega arith))) p13
for_small P p0 p1 p2 p3 p4 p5 p6 p7 p8 p9 p10 p11 p12 p13 p14 p15 p16 p17 p18 p19 p20 (suc (suc (suc (suc (suc (suc (suc (suc (suc (suc (suc (suc (suc (suc zero)))))))))))))) h = subst (λ (text : List ℕ). P 14 text) (sym (decimal_two 14 (omega arith) (omega arith))) p14
for_small P p0 p1 p2 p3 p4 p5 p6 p7 p8 p9 p10 p11 p12 p13 p14 p15 p16 p17 p18 p19 p20 (suc (suc (suc (suc (suc (suc (suc (suc (suc (suc (suc (suc (suc (suc (suc zero))))))))))))))) h = subst (λ (text : List ℕ). P 15 text) (sym (decimal_two 15 (omega arith) (omega arith))) p15
for_small P p0 p1 p2 p3 p4 p5 p6 p7 p8 p9 p10 p11 p12 p13 p14 p15 p16 p17 p18 p19 p20 (suc (suc (suc (suc (suc (suc (suc (suc (suc (suc (suc (suc (suc (suc (suc (suc zero)))))))))))))))) h = subst (λ (text : List ℕ). P 16 text) (sym (decimal_two 16 (omega arith) (omega arith))) p16
for_small P p0 p1 p2 p3 p4 p5 p6 p7 p8 p9 p10 p11 p12 p13 p14 p15 p16 p17 p18 p19 p20 (suc (suc (suc (suc (suc (suc (suc (suc (suc (suc (suc (suc (suc (suc (suc (suc (suc zero))))))))))))))))) h = subst (λ (text : List ℕ). P 17 text) (sym (decimal_two 17 (omega arith) (omega arith))) p17
for_small P p0 p1 p2 p3 p4 p5 p6 p7 p8 p9 p10 p11 p12 p13 p14 p15 p16 p17 p18 p19 p20 (suc (suc (suc (suc (suc (suc (suc (suc (suc (suc (suc (suc (suc (suc (suc (suc (suc (suc zero)))))))))))))))))) h = subst (λ (text : List ℕ). P 18 text) (sym (decimal_two 18 (omega arith) (omega arith))) p18
for_small P p0 p1 p2 p3 p4 p5 p6 p7 p8 p9 p10 p11 p12 p13 p14 p15 p16 p17 p18 p19 p20 (suc (suc (suc (suc (suc (suc (suc (suc (suc (suc (suc (suc (suc (suc (suc (suc (suc (suc (suc zero))))))))))))))))))) h = subst (λ (text : List ℕ). P 19 text) (sym (decimal_two 19 (omega arith) (omega arith))) p19
for_small P p0 p1 p2 p3 p4 p5 p6 p7 p8 p9 p10 p11 p12 p13 p14 p15 p16 p17 p18 p19 p20 (suc (suc (suc (suc (suc (suc (suc (suc (suc (suc (suc (suc (suc (suc (suc (suc (suc (suc (suc (suc zero)))))))))))))))))))) h = subst (λ (text : List ℕ). P 20 text) (sym (decimal_two 20 (omega arith) (omega arith))) p20
for_small P p0 p1 p2 p3 p4 p5 p6 p7 p8 p9 p10 p11 p12 p13 p14 p15 p16 p17 p18 p19 p20 (suc (suc (suc (suc (suc (suc (suc (suc (suc (suc (suc (suc (suc (suc (suc (suc (suc (suc (suc (suc (suc n))))))))))))))))))))) h = absurd (omega arith)
