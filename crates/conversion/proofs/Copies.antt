-- The last bytes of a list copied to the end of another, one by one.
use Prim.Native.Nat.{ℕ, suc, ◌+◌, ◌-◌, ◌≤◌, ◌<◌}
use native.Mathlib.Omega.{arith}
use mathlib.Core.Path.{◌≡◌, sym, ap, ap₂, ◌∙◌}
use mathlib.Core.List.{List, ◌++◌, append-nil}
use lib.ListN.{length, get_or, set, take, drop, length-drop}
use lib.Seq.{paste, paste-zero, paste-suc, get_or-drop, take_all, drop-length}

-- left of size of n: those before them all, and those between
between : (n size left : ℕ) → left ≤ size → size ≤ n → n - left ≡ n - size + (size - left)
between n size left l k = omega arith

back : {n size : ℕ} → size ≤ n → n - (n - size) ≡ size
back l = omega arith

fewer : {size left : ℕ} → 0 < left → left ≤ size → size - left < size
fewer some few = omega arith

before : {n size left : ℕ} → 0 < left → left ≤ size → size ≤ n → n - size + (size - left) < n
before some few room = omega arith

one_less : (size left : ℕ) → 0 < left → left ≤ size → suc (size - left) ≡ size - (left - 1)
one_less size left some few = omega arith

module _ (s out₀ : List ℕ) (size : ℕ) where
  -- what is copied, and where it begins
  abbrev source : List ℕ
  source = drop (length s - size) s

  abbrev at : ℕ
  at = length out₀ - size

  -- all but the last `left` bytes are copied: none, one more, all
  pub copied_none : out₀ ≡ paste out₀ at source (size - size)
  copied_none = let z : 0 ≡ size - size = omega arith in paste-zero out₀ at source ∙ ap (paste out₀ at source) z

  module _ (inside : size ≤ length s) (room : size ≤ length out₀) where
    source-length : length source ≡ size
    source-length = length-drop (length s - size) s ∙ back inside

    pub copied_more : (left : ℕ) {out : List ℕ} → 0 < left → left ≤ size → out ≡ paste out₀ at source (size - left)
        → set out (length out₀ - left) (get_or s (length s - left) 0) ≡ paste out₀ at source (size - (left - 1))
    copied_more left {out} some few e =
        let place = between (length out₀) size left few room in
        let from = between (length s) size left few inside in
        ap₂ (λ (o : List ℕ) (p : ℕ). set o p (get_or s (length s - left) 0)) e place
        ∙ ap (λ (x : ℕ). set (paste out₀ at source (size - left)) (at + (size - left)) x)
        (ap (λ (i : ℕ). get_or s i 0) from ∙ sym (get_or-drop (length s - size) s (size - left) 0))
        ∙ paste-suc out₀ at source (size - left) 0 (before some few room) (rw (source-length) (fewer some few))
        ∙ ap (paste out₀ at source) (one_less size left some few)

    pub copied_all : (left : ℕ) {out : List ℕ} → left ≤ 0 → out ≡ paste out₀ at source (size - left) → out ≡ take at out₀ ++ source
    copied_all left none e =
        let all : size - left ≡ size = omega (arith, none) in
        let end : at + (size - left) ≡ length out₀ = ap (λ (k : ℕ). at + k) all ∙ omega (arith, room) in
        let whole : take (size - left) source ≡ source = take_all (size - left) source (omega (arith, all, source-length)) in
        e
        ∙ ap₂ (λ (l : List ℕ) (k : ℕ). take at out₀ ++ l ++ drop k out₀) whole end
        ∙ ap (λ (l : List ℕ). take at out₀ ++ source ++ l) (drop-length out₀) ∙ append-nil (take at out₀ ++ source)
