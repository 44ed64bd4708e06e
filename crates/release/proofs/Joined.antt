-- The length that join returns fits its place.
use Prim.Native.Nat.{ℕ, ◌≤◌}
use native.Mathlib.Omega.{arith}
use mathlib.Core.Path.{◌≡◌, sym, ap, ◌∙◌}
use mathlib.Core.Logic.{⊎_elim}
use mathlib.Core.List.{List, [], ◌∷◌}
use lib.Seq.{length-take-le}
use Rattle.lts.specs.Rule.{Reply, given}
use Rattle.lts.proofs.Rule.{finding, numbered}
use Rattle.encoding.proofs.Reader.{readable_of}
use Rattle.encoding.proofs.Sizes.{labels-room}
use Rattle.disjoint_union.specs.Join.{join_rules, JoinPromise}

module _ {first second out₀ out : List ℕ} {len : ℕ} {reply : Reply} (p : JoinPromise first second out₀ reply out) (is : reply ≡ given (len ∷ [])) where
  pub length-few : len ≤ 8198
  length-few = ⊎_elim
      (λ k.
      let n = (p.answers k).0 in
      let j = (p.answers k).1 in
      let e : ◌≡◌ {A = List ℕ} (len ∷ []) (n ∷ []) = ap (λ (x : Reply). x.values) (sym is ∙ j.replied) in
      let x : len ≡ n = cc in
      let s = (readable_of j.written.reads).recorded.sized in
      omega (arith, x, length-take-le n out j.room, s.long, labels-room s.bounds, s.bounds.states, s.bounds.transitions))
      (λ q. absurd (numbered q.0 (ap (λ (x : Reply). x.refusal) (sym is ∙ (p.refuses q.0 q.1).0))))
      (finding (join_rules first second out₀))
