-- The index of labels: one label more in it, and the label that all its bytes find.
use Prim.Native.Nat.{ℕ, zero, suc, ◌+◌, ◌*◌, ◌/◌, ◌%◌, ◌≤◌, ◌<◌}
use native.Mathlib.Nat.{le_of_suc-le-suc, not-suc-le-zero, zero-lt-suc}
use native.Mathlib.Numerals.{add-one}
use native.Mathlib.Omega.{arith}
use mathlib.Core.Path.{◌≡◌, refl, sym, ap, ap₂, ◌∙◌}
use mathlib.Core.Bool.{Bool, true, false, cond, not, ◌&&◌, ◌||◌, or-false}
use mathlib.Core.Logic.{⊎_elim}
use mathlib.Core.List.{List, [], ◌∷◌, ◌++◌}
use lib.Bits.{bit_and}
use lib.Dec.{eqb, ltb}
use lib.ListN.{length, get_or, replicate, length-replicate, length-append, get_or-append}
use lib.Pow.{pow_pos}
use lib.Seq.{get_or-append-add}
use borrow.Author.Tests.{lt-ltb, le-ltb, eq-eqb, ne_eqb, ltb-true, eqb-true}
use Rattle.lts.specs.Bounded.{any_below, all_below, lowest}
use Rattle.lts.specs.Places.{among, place_in}
use Rattle.lts.specs.Labels.{same_label}
use Rattle.lts.proofs.Below.{lt-or-ge, clash, either, bool_iff, T_true, true-T, and-fst, and-snd}
use Rattle.lts.proofs.Below.{all-not, all-cong, any-yes, any-more, any_some, lowest-is, lowest-none, lowest-agree, length-list_below}
use Rattle.lts.proofs.Places as places
use Rattle.lts.proofs.Labels.{label-tests}
use Rattle.encoding.proofs.Labels.{same_bytes}
use Rattle.rows.specs.Rows.{bit, in_row, row_of}
use Rattle.rows.proofs.Bits.{bit-and, bit_not, bit-of-zero}
use Rattle.rows.proofs.Rows.{in_row-at, in_row-of, in_row-zeros}
use Rattle.labels.specs.Index.{low_word, high_word, Indexed}

-- the index of no label: zeros
pub indexed-none : (n : ℕ) → n ≡ 512 → Indexed [] (replicate {A = ℕ} n 0)
indexed-none n long = record {
  long = length-replicate {A = ℕ} n 0 ∙ long;
  few = omega arith;
  each = λ i h. absurd (not-suc-le-zero h);
  low = λ d v i hd hv hi. in_row-zeros n _ ∙ sym (ap (λ (b : Bool). b && eqb (get_or (get_or {A = List ℕ} [] i []) d 0 % 16) (v % 16)) (le-ltb i 0 (omega arith)));
  high = λ d v i hd hv hi. in_row-zeros n _ ∙ sym (ap (λ (b : Bool). b && eqb (get_or (get_or {A = List ℕ} [] i []) d 0 / 16) (v / 16)) (le-ltb i 0 (omega arith)));
}

-- ## One label more

-- the bits of byte d of the label x with number i
abbrev pub marks : List ℕ → ℕ → ℕ → ℕ → Bool
marks x i q d = eqb q (low_word d (get_or x d 0) * 64 + i) || eqb q (high_word d (get_or x d 0) * 64 + i)

-- the bits of the first d bytes are in the index
pub record Marked (x : List ℕ) (i d : ℕ) (before index : List ℕ) : Type 0 where
  pub long : length index ≡ 512
  pub bits : (q : ℕ) → q < 512 * 64 → in_row index q ≡ in_row before q || any_below d (marks x i q)

pub mark-none : (x : List ℕ) (i : ℕ) (index : List ℕ) → length index ≡ 512 → Marked x i 0 index index
unfolding any_below
mark-none x i index long = record { long = long; bits = λ q h. sym (or-false (in_row index q)) }

pub mark-more : (x : List ℕ) (i d : ℕ) (before index : List ℕ) {w u : ℕ} {mid next : List ℕ} → Marked x i d before index
    → w ≡ low_word d (get_or x d 0) → u ≡ high_word d (get_or x d 0) → mid ≡ row_of (length index) (λ q. eqb q (w * 64 + i) || in_row index q)
    → next ≡ row_of (length mid) (λ q. eqb q (u * 64 + i) || in_row mid q) → Marked x i (d + 1) before next
mark-more x i d before index {w} {u} {mid} {next} now one two e f = record {
  long = ap (λ (l : List ℕ). length l) f ∙ length-list_below (length mid) _ ∙ middle;
  bits = λ q h.
      ap (λ (l : List ℕ). in_row l q) f ∙ in_row-of (length mid) _ q (omega (arith, h, middle))
      ∙ ap₂ ◌||◌ (ap (λ (v : ℕ). eqb q (v * 64 + i)) two) (ap (λ (l : List ℕ). in_row l q) e ∙ in_row-of (length index) _ q (omega (arith, h, now.long))
      ∙ ap₂ ◌||◌ (ap (λ (v : ℕ). eqb q (v * 64 + i)) one) (now.bits q h))
      ∙ turn (eqb q (high_word d (get_or x d 0) * 64 + i)) (eqb q (low_word d (get_or x d 0) * 64 + i)) (in_row before q) (any_below d (marks x i q))
      ∙ ap (λ (b : Bool). in_row before q || b) (sym (any-more (marks x i q) d));
}
  where
    middle : length mid ≡ 512
    middle = ap (λ (l : List ℕ). length l) e ∙ length-list_below (length index) _ ∙ now.long

    turn : (h l b c : Bool) → h || (l || (b || c)) ≡ b || (c || (l || h))
    turn true l true c = refl
    turn true l false true = refl
    turn true true false false = refl
    turn true false false false = refl
    turn false true true c = refl
    turn false true false true = refl
    turn false true false false = refl
    turn false false true c = refl
    turn false false false true = refl
    turn false false false false = refl

either_true : {P : Type 0} (a b : Bool) → a || b ≡ true → (a ≡ true → P) → (b ≡ true → P) → P
either_true true b e f g = f refl
either_true false b e f g = g e

left-true : (a b : Bool) → a ≡ true → a || b ≡ true
left-true a b e = rw e

right-true : (a b : Bool) → b ≡ true → a || b ≡ true
right-true true b e = refl
right-true false b e = e

module _ (x : List ℕ) (i : ℕ) (low : i < 64) (bytes : (d : ℕ) → get_or x d 0 < 256) where
  -- each bit is that of one half of a byte, label and place
  marked-low : (d v k : ℕ) → d < 16 → v < 256 → k < 64 → any_below 16 (marks x i (low_word d v * 64 + k)) ≡ eqb k i && eqb (get_or x d 0 % 16) (v % 16)
  marked-low d v k hd hv hk = bool_iff to from
    where
      q : ℕ
      q = low_word d v * 64 + k

      to : any_below 16 (marks x i q) ≡ true → eqb k i && eqb (get_or x d 0 % 16) (v % 16) ≡ true
      to t =
          let s = any_some 16 (marks x i q) t in
          let b = bytes s.0 in
          either_true (eqb q (low_word s.0 (get_or x s.0 0) * 64 + i)) _ s.2
          (λ f.
          let e = eqb-true q (low_word s.0 (get_or x s.0 0) * 64 + i) f in
          let place : s.0 ≡ d = omega (arith, e, b, low, hv, hk) in
          let half : get_or x s.0 0 % 16 ≡ v % 16 = omega (arith, e, b, low, hv, hk) in
          ap₂ ◌&&◌ (eq-eqb k i (omega (arith, e, low, hk))) (eq-eqb (get_or x d 0 % 16) (v % 16) (ap (λ (j : ℕ). get_or x j 0 % 16) (sym place) ∙ half)))
          (λ f. let e = eqb-true q (high_word s.0 (get_or x s.0 0) * 64 + i) f in absurd (omega (arith, e, b, low, hv, hk)))

      from : eqb k i && eqb (get_or x d 0 % 16) (v % 16) ≡ true → any_below 16 (marks x i q) ≡ true
      from t =
          let number = eqb-true k i (and-fst _ _ t) in
          let half = eqb-true (get_or x d 0 % 16) (v % 16) (and-snd (eqb k i) _ t) in
          sym (any-yes 16 (marks x i q) d hd (left-true _ _ (eq-eqb q (low_word d (get_or x d 0) * 64 + i) (omega (arith, number, half)))))

  marked-high : (d v k : ℕ) → d < 16 → v < 256 → k < 64 → any_below 16 (marks x i (high_word d v * 64 + k)) ≡ eqb k i && eqb (get_or x d 0 / 16) (v / 16)
  marked-high d v k hd hv hk = bool_iff to from
    where
      q : ℕ
      q = high_word d v * 64 + k

      to : any_below 16 (marks x i q) ≡ true → eqb k i && eqb (get_or x d 0 / 16) (v / 16) ≡ true
      to t =
          let s = any_some 16 (marks x i q) t in
          let b = bytes s.0 in
          either_true (eqb q (low_word s.0 (get_or x s.0 0) * 64 + i)) _ s.2
          (λ f. let e = eqb-true q (low_word s.0 (get_or x s.0 0) * 64 + i) f in absurd (omega (arith, e, b, low, hv, hk)))
          (λ f.
          let e = eqb-true q (high_word s.0 (get_or x s.0 0) * 64 + i) f in
          let place : s.0 ≡ d = omega (arith, e, b, low, hv, hk) in
          let half : get_or x s.0 0 / 16 ≡ v / 16 = omega (arith, e, b, low, hv, hk) in
          ap₂ ◌&&◌ (eq-eqb k i (omega (arith, e, low, hk))) (eq-eqb (get_or x d 0 / 16) (v / 16) (ap (λ (j : ℕ). get_or x j 0 / 16) (sym place) ∙ half)))

      from : eqb k i && eqb (get_or x d 0 / 16) (v / 16) ≡ true → any_below 16 (marks x i q) ≡ true
      from t =
          let number = eqb-true k i (and-fst _ _ t) in
          let half = eqb-true (get_or x d 0 / 16) (v / 16) (and-snd (eqb k i) _ t) in
          sym (any-yes 16 (marks x i q) d hd
          (right-true (eqb q (low_word d (get_or x d 0) * 64 + i)) _ (eq-eqb q (high_word d (get_or x d 0) * 64 + i) (omega (arith, number, half)))))

  -- the index with all 16 bytes of one label more
  pub indexed-more : (J : List (List ℕ)) (before index : List ℕ) {d : ℕ} → Indexed J before → i ≡ length J → length x ≡ 16 → d ≡ 16
      → Marked x i d before index → Indexed (J ++ (x ∷ [])) index
  indexed-more J before index had number long all now = record {
    long = now.long;
    few = omega (arith, more, low, number);
    each = λ k h. ⊎_elim (λ (l : k < length J). ap (λ (y : List ℕ). length y) (old k l) ∙ had.each k l)
        (λ (l : length J ≤ k). ap (λ (y : List ℕ). length y) (new k (omega (arith, h, l, more))) ∙ long) (lt-or-ge k (length J));
    low = λ d v k hd hv hk.
        let q = low_word d v * 64 + k in
        now.bits q (omega (arith, hd, hv, hk))
        ∙ ap₂ ◌||◌ (had.low d v k hd hv hk) (ap (λ (n : ℕ). any_below n (marks x i q)) all ∙ marked-low d v k hd hv hk) ∙ sum (λ y. y % 16) d (v % 16) k;
    high = λ d v k hd hv hk.
        let q = high_word d v * 64 + k in
        now.bits q (omega (arith, hd, hv, hk))
        ∙ ap₂ ◌||◌ (had.high d v k hd hv hk) (ap (λ (n : ℕ). any_below n (marks x i q)) all ∙ marked-high d v k hd hv hk) ∙ sum (λ y. y / 16) d (v / 16) k;
  }
    where
      more : length (J ++ (x ∷ [])) ≡ length J + 1
      more = length-append J (x ∷ [])

      old : (k : ℕ) → k < length J → get_or (J ++ (x ∷ [])) k [] ≡ get_or J k []
      old k l = get_or-append J (x ∷ []) [] k l

      new : (k : ℕ) → k ≡ length J → get_or (J ++ (x ∷ [])) k [] ≡ x
      new k e =
          let at : k ≡ length J + 0 = omega (arith, e) in
          ap (λ (j : ℕ). get_or (J ++ (x ∷ [])) j []) at ∙ get_or-append-add J (x ∷ []) 0 []

      Sum : (ℕ → ℕ) → ℕ → ℕ → ℕ → Type 0
      Sum half d v k =
          (ltb k (length J) && eqb (half (get_or (get_or J k []) d 0)) v) || (eqb k i && eqb (half (get_or x d 0)) v)
          ≡ ltb k (length (J ++ (x ∷ []))) && eqb (half (get_or (get_or (J ++ (x ∷ [])) k []) d 0)) v

      sum : (half : ℕ → ℕ) (d v k : ℕ) → Sum half d v k
      sum half d v k =
          ⊎_elim
          (λ (l : k < length J).
          rw (lt-ltb k (length J) l, ne_eqb k i (λ e. omega (arith, e, l, number)), lt-ltb k (length (J ++ (x ∷ []))) (omega (arith, l, more)), old k l)
          (or-false (eqb (half (get_or (get_or J k []) d 0)) v)))
          (λ (l : length J ≤ k). ⊎_elim
          (λ (m : k < suc (length J)).
          let e : k ≡ length J = omega (arith, l, m) in
          rw (le-ltb k (length J) l, eq-eqb k i (e ∙ sym number), lt-ltb k (length (J ++ (x ∷ []))) (omega (arith, e, more)), new k e))
          (λ (m : suc (length J) ≤ k).
          rw (le-ltb k (length J) l, ne_eqb k i (λ e. omega (arith, e, m, number)), le-ltb k (length (J ++ (x ∷ []))) (omega (arith, m, more))))
          (lt-or-ge k (suc (length J))))
          (lt-or-ge k (length J))

-- ## A label found

-- label k agrees with x at place e
abbrev agrees : List ℕ → List ℕ → ℕ → ℕ → Bool
agrees index x k e = in_row index (low_word e (get_or x e 0) * 64 + k) && in_row index (high_word e (get_or x e 0) * 64 + k)

-- the bits of the word are the labels that agree with x in the first d places
pub record Sieved (index x : List ℕ) (d set : ℕ) : Type 0 where
  pub bits : (k : ℕ) → k < 64 → bit set k ≡ all_below d (agrees index x k)

pub sieve-none : (index x : List ℕ) → Sieved index x 0 18446744073709551615
unfolding all_below
sieve-none index x = record { bits = λ k h. bit_not 64 0 k h (pow_pos 64) ∙ ap not (bit-of-zero k) }

pub sieve-more : (index x : List ℕ) (d : ℕ) {w u set : ℕ} → Sieved index x d set → w ≡ low_word d (get_or x d 0) → u ≡ high_word d (get_or x d 0)
    → Sieved index x (d + 1) (bit_and set (bit_and (get_or index w 0) (get_or index u 0)))
unfolding all_below
sieve-more index x d {w} {u} {set} now one two = record {
  bits = λ k h.
      bit-and set (bit_and (get_or index w 0) (get_or index u 0)) k
      ∙ ap₂ ◌&&◌ (now.bits k h) (bit-and (get_or index w 0) (get_or index u 0) k ∙ ap₂ ◌&&◌ (word one k h) (word two k h))
      ∙ sym (ap (λ (n : ℕ). all_below n (agrees index x k)) (add-one d));
}
  where
    word : {v c : ℕ} → v ≡ c → (k : ℕ) → k < 64 → bit (get_or index v 0) k ≡ in_row index (c * 64 + k)
    word {v} {c} e k h = ap (λ (j : ℕ). bit (get_or index j 0) k) e ∙ sym (in_row-at index c k h)

-- both halves of two bytes are the same exactly if the bytes are
halves : (b : Bool) (y x : ℕ) → (b && eqb (y % 16) (x % 16)) && (b && eqb (y / 16) (x / 16)) ≡ b && eqb y x
halves false y x = refl
halves true y x = bool_iff to from
  where
    to : eqb (y % 16) (x % 16) && eqb (y / 16) (x / 16) ≡ true → eqb y x ≡ true
    to t =
        let l = eqb-true (y % 16) (x % 16) (and-fst _ _ t) in
        let h = eqb-true (y / 16) (x / 16) (and-snd (eqb (y % 16) (x % 16)) _ t) in
        eq-eqb y x (omega (arith, l, h))

    from : eqb y x ≡ true → eqb (y % 16) (x % 16) && eqb (y / 16) (x / 16) ≡ true
    from t =
        let e = eqb-true y x t in
        ap₂ ◌&&◌ (eq-eqb (y % 16) (x % 16) (ap (λ (z : ℕ). z % 16) e)) (eq-eqb (y / 16) (x / 16) (ap (λ (z : ℕ). z / 16) e))

-- the place of x is the first of the places with the same label
place-before : (J : List (List ℕ)) (x : List ℕ) (i : ℕ) → i < place_in same_label J x → same_label (get_or J i []) x ≡ false
unfolding place_in
place-before [] x i h = absurd (not-suc-le-zero h)
place-before (y ∷ J) x i h = go (same_label y x) refl (place-before J x) i h
  where
    go : (b : Bool) → same_label y x ≡ b → ((i : ℕ) → i < place_in same_label J x → same_label (get_or J i []) x ≡ false) → (i : ℕ)
        → i < cond b zero (suc (place_in same_label J x)) → same_label (get_or (y ∷ J) i []) x ≡ false
    go true e ih i h = absurd (not-suc-le-zero h)
    go false e ih zero h = e
    go false e ih (suc i) h = ih i (le_of_suc-le-suc h)

lowest-place : (n : ℕ) (J : List (List ℕ)) (x : List ℕ) → length J ≤ n
    → lowest n (λ k. ltb k (length J) && same_label (get_or J k []) x) ≡ cond (among same_label J x) (place_in same_label J x) n
lowest-place n J x room =
    ⊎_elim
    (λ (t : among same_label J x ≡ true).
    let there = places.place-holds same_label label-tests [] J x (true-T (among same_label J x) t) in
    sym (lowest-is n here (place_in same_label J x) (omega (arith, room, there.0)) (found (place_in same_label J x) there.0 there.1) before)
    ∙ ap (λ (b : Bool). cond b (place_in same_label J x) n) (sym t))
    (λ (t : among same_label J x ≡ false). sym (lowest-none n here (λ k h. missing t k)) ∙ ap (λ (b : Bool). cond b (place_in same_label J x) n) (sym t))
    (either (among same_label J x))
  where
    here : ℕ → Bool
    here k = ltb k (length J) && same_label (get_or J k []) x

    found : (k : ℕ) → k < length J → get_or J k [] ≡ x → here k ≡ true
    found k l e = ap₂ ◌&&◌ (lt-ltb k (length J) l) (ap (λ (y : List ℕ). same_label y x) e ∙ T_true (same_label x x) (label-tests.whole x))

    and_none : (a : Bool) {b : Bool} → b ≡ false → a && b ≡ false
    and_none true e = e
    and_none false e = refl

    before : (k : ℕ) → k < place_in same_label J x → here k ≡ false
    before k l = and_none (ltb k (length J)) (place-before J x k l)

    missing : among same_label J x ≡ false → (k : ℕ) → here k ≡ false
    missing t k =
        ⊎_elim
        (λ (e : here k ≡ true).
        let l = ltb-true k (length J) (and-fst _ _ e) in
        let same = label-tests.sound _ x (true-T _ (and-snd (ltb k (length J)) _ e)) in
        absurd (clash (T_true (among same_label J x) ((places.among-iff same_label label-tests [] J x).1 (k, l, same))) t))
        (λ (e : here k ≡ false). e)
        (either (here k))

module _ (J : List (List ℕ)) (index x : List ℕ) (has : Indexed J index) (long : length x ≡ 16) (bytes : (d : ℕ) → get_or x d 0 < 256) where
  sieved-all : (k : ℕ) → k < 64 → all_below 16 (agrees index x k) ≡ ltb k (length J) && same_label (get_or J k []) x
  sieved-all k h =
      all-cong 16 _ (λ d. ltb k (length J) && eqb (get_or (get_or J k []) d 0) (get_or x d 0)) (λ d l.
      ap₂ ◌&&◌ (has.low d (get_or x d 0) k l (bytes d) h) (has.high d (get_or x d 0) k l (bytes d) h) ∙ halves (ltb k (length J)) (get_or (get_or J k []) d 0) (get_or x d 0))
      ∙ ⊎_elim
      (λ (l : k < length J). rw (lt-ltb k (length J) l) (same_bytes (get_or J k []) x (has.each k l) long))
      (λ (l : length J ≤ k). rw (le-ltb k (length J) l) (sym (all-not 16 (λ d. false) 0 (zero-lt-suc 15) refl)))
      (lt-or-ge k (length J))

  -- the word of all 16 places finds the label
  pub label-found : {d set : ℕ} → d ≡ 16 → Sieved index x d set → lowest 64 (bit set) ≡ cond (among same_label J x) (place_in same_label J x) 64
  label-found {d} {set} all now =
      lowest-agree 64 _ (λ k. ltb k (length J) && same_label (get_or J k []) x)
      (λ k h. now.bits k h ∙ ap (λ (n : ℕ). all_below n (agrees index x k)) all ∙ sieved-all k h)
      ∙ lowest-place 64 J x has.few
