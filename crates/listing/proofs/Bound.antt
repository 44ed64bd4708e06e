-- The longest text: a first line of at most 64 bytes, and at most 256 lines of at most 1,040.
use Prim.Native.Nat.{ℕ, ◌*◌, ◌≤◌, ◌<◌}
use mathlib.Core.Path.{subst}
use mathlib.Core.Logic.{⊎_elim}
use mathlib.Core.Bool.{Bool, true, false, cond}
use mathlib.Core.List.{List, [], ◌++◌}
use native.Mathlib.Omega.{arith}
use lib.ListN.{length, length-append}
use Rattle.lts.specs.Bounded.{concat_below}
use Rattle.lts.specs.System.{Rel, Lts, termination_preorder}
use Rattle.lts.specs.Refinement.{coarsest, block, representative}
use Rattle.lts.specs.Refusal.{refusal_number}
use Rattle.lts.proofs.Count.{sum-most, length-concat}
use Rattle.lts.proofs.Rule.{finding, number-some}
use Rattle.encoding.specs.declared.Header.{Header}
use Rattle.encoding.specs.Checked.{ReadableAs}
use Rattle.encoding.specs.Encoding.{sheet_rules}
use Rattle.encoding.specs.Denotation.{lts_of}
use Rattle.encoding.proofs.Reader.{kept-readable}
use Rattle.lts.proofs.Below.{lowest-le}
use Rattle.coarsest.specs.Call.{refined}
use Rattle.report.specs.Decimal.{decimal}
use Rattle.lines.specs.Lines.{blank, head_line, related_text, state_line, refused_line}
use Rattle.lines.proofs.Laws.{five-digits, three-digits}
use Rattle.listing.specs.Text.{system_text, flow_text}
use Rattle.listing.proofs.Texts.{refused-text, read-text}
use Rattle.listing.proofs.Calls.{states-most, size, counts-small}

related-most : (R : Rel) (p q : ℕ) → q < 256 → length (related_text R p q) ≤ 4
unfolding related_text
related-most R p q h = go (R p q)
  where
    go : (b : Bool) → length (cond b (blank ++ decimal q) []) ≤ 4
    go true = simp length-append (omega (arith, three-digits q (omega arith)))
    go false = omega arith

-- the lists f 0 .. f (n - 1), one after the other, each of at most c
concat-most : (n c : ℕ) (f : ℕ → List ℕ) → ((i : ℕ) → i < n → length (f i) ≤ c) → length (concat_below n f) ≤ n * c
concat-most n c f h = rw length-concat (sum-most n c _ h)

line-most : (n : ℕ) (R : Rel) (name p : ℕ) → n ≤ 256 → p < n → name ≤ 256 → length (state_line n R name p) ≤ 1040
unfolding state_line
line-most n R name p h l m =
    let row = concat-most n 4 (related_text R p) (λ q u. related-most R p q (omega arith)) in
    simp length-append (omega (arith, row, three-digits p (omega arith), three-digits name (omega arith)))

head-most : (n steps pairs blocks : ℕ) → n < 100000 → steps < 100000 → pairs < 100000 → blocks < 100000 → length (head_line n steps pairs blocks) ≤ 64
unfolding head_line
head-most n steps pairs blocks a b c d =
    simp length-append (omega (arith, five-digits n a, five-digits steps b, five-digits pairs c, five-digits blocks d))

refused-most : (x : ℕ) → x < 100000 → length (refused_line x) ≤ 64
unfolding refused_line
refused-most x h = simp length-append (omega (arith, five-digits x h))

name-most : (L : Lts) (K : Rel) (p : ℕ) → L.states ≤ 256 → representative L K p ≤ 256
unfolding representative
name-most L K p h = omega (arith, lowest-le L.states (block K p))

lines-most : (L : Lts) (K : Rel) → L.states ≤ 256 → length (concat_below L.states (λ p. state_line L.states K (representative L K p) p)) ≤ 266240
lines-most L K h =
    let line : ℕ → List ℕ = λ p. state_line L.states K (representative L K p) p in
    let most = concat-most L.states 1040 line (λ p l. line-most L.states K (representative L K p) p h l (name-most L K p h)) in
    omega (arith, most)

system-most : {s : List ℕ} {h : Header} → ReadableAs s h → length (system_text (lts_of s)) ≤ 266304
unfolding system_text refined
system-most {s} ok =
    let small = counts-small ok in
    let most : (lts_of s).states ≤ 256 = omega (arith, size ok, states-most ok) in
    let K = (coarsest (lts_of s) (termination_preorder (lts_of s)) []).final.related in
    let head = head-most (lts_of s).states _ _ _ (omega arith) small.steps small.pairs small.blocks in
    simp length-append (omega (arith, head, lines-most (lts_of s) K most))

-- no text is longer than its buffer
pub text-most : (s : List ℕ) → length (flow_text s) ≤ 266304
text-most s = ⊎_elim
    (λ e. subst (λ (t : List ℕ). length t ≤ 266304) (read-text s e) (system-most (kept-readable s e)))
    (λ q. subst (λ (t : List ℕ). length t ≤ 266304) (refused-text s q.1)
    (omega (arith, refused-most (refusal_number q.0) (omega (arith, (number-some q.0).1)))))
    (finding (sheet_rules s))
