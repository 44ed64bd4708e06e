-- Two readable sequences of bytes in normal form that have the same kind and labels and denote the same Lts are equal.
use Prim.Native.Nat.{ℕ, zero, suc, ◌+◌, ◌*◌, ◌-◌, ◌≤◌, ◌<◌, ◌/◌, ◌%◌}
use mathlib.Core.Path.{◌≡◌, refl, sym, ap, ◌∙◌}
use mathlib.Core.Bool.{cond, false≢true, and-eq-true_iff}
use mathlib.Core.List.{List, [], ◌∷◌, ◌++◌, map, head-eq_of_cons-eq, tail-eq_of_cons-eq}
use native.Mathlib.Omega.{arith}
use native.Mathlib.Nat.{not-suc-le-zero, le_refl, add-zero}
use native.Mathlib.Numerals.{add-one}
use native.Mathlib.Decide.{dec_lt, ℕ_discrete}
use borrow.Author.Tests.{eq-eqb, ne_eqb, eqb-true, le-leb, lt-leb}
use lib.Dec.{leb}
use lib.ListN.{length, get_or, length-append, length-map}
use lib.Seq.{ext_get_or}
use Rattle.lts.specs.Bounded.{concat_below}
use Rattle.encoding.specs.declared.Header.{Header}
use Rattle.encoding.specs.declared.StateRecord.{StateRecord}
use Rattle.encoding.specs.declared.TransitionRecord.{TransitionRecord}
use Rattle.encoding.specs.Records.{number_at, header_of, state_record_at, transition_record_at, labels_length, encoding_length, state_record, transition_record, IsBytes}
use Rattle.encoding.specs.Labels.{labelling_of, records_of}
use Rattle.encoding.specs.Encoding.{walk, chain, reached, member, successor, state_fits, states_fit, transition_fits, transitions_fit}
use Rattle.encoding.specs.Checked.{ReadableAs}
use Rattle.encoding.specs.Denotation.{lts_of}
use Rattle.normal_form.specs.NormalForm.{IsNormal}
use Rattle.lts.proofs.Below.{all-at}
use Rattle.lts.proofs.Lists.{Every}
use Rattle.encoding.proofs.Chains.{transition-known}
use Rattle.encoding.proofs.Denotation.{transition-member, mark-byte}
use Rattle.transitions.proofs.Codes.{Rising, rising-out}
use Rattle.encoding.proofs.Counting.{Good, good-successors}
use Rattle.encoding.proofs.Members.{member-keeps}
use Rattle.encoding.proofs.Parts.{labels_from}
use Rattle.normal_form.proofs.Labelled.{sheet-records}
use Rattle.normal_form.proofs.Ordered.{chain-ends, chain-rising, each-record}

-- ## Rising lists with the same members are equal
rising-ext : (b : ℕ) (k l : List ℕ) → Rising b k → Rising b l → ((x : ℕ) → member x k ≡ member x l) → k ≡ l
unfolding member
rising-ext b [] [] r q m = refl
rising-ext b [] (y ∷ l) r q m = absurd (false≢true (m y ∙ rw (eq-eqb y y refl)))
rising-ext b (x ∷ k) [] r q m = absurd (false≢true (sym (m x) ∙ rw (eq-eqb x x refl)))
rising-ext b (x ∷ k) (y ∷ l) r q m = go (ℕ_discrete x y) (rising-ext (suc x) k l r.1)
  where
    go : Dec (x ≡ y) → (Rising (suc x) l → ((z : ℕ) → member z k ≡ member z l) → k ≡ l) → x ∷ k ≡ y ∷ l
    go (yes e) ih =
        let q' : Rising (suc x) l = rw e q.1 in
        rw e (ap (λ z. y ∷ z) (ih q' (λ z. tail z q' (dec_lt x z))))
      where
        tail : (z : ℕ) → Rising (suc x) l → Dec (x < z) → member z k ≡ member z l
        tail z q' (yes u) =
            let a : (z ≡ x → ⊥) = λ i. omega arith in
            let c = rw (ne_eqb z x a) at (m z) in
            rw (ne_eqb z y (λ i. a (i ∙ sym e))) at c
        tail z q' (no u) = rising-out z (suc x) k (omega (arith, u)) r.1 ∙ sym (rising-out z (suc x) l (omega (arith, u)) q')
    go (no n) ih = absurd (apart (dec_lt x y))
      where
        apart : Dec (x < y) → ⊥
        apart (yes u) =
            let c = rising-out x (suc y) l (omega arith) q.1 in
            false≢true (sym (m x ∙ rw (ne_eqb x y n, c)) ∙ rw (eq-eqb x x refl))
        apart (no u) =
            let c = rising-out y (suc x) k (omega (arith, u, n)) r.1 in
            false≢true (sym (rw (ne_eqb y x (λ i. n (sym i)), c)) ∙ m y ∙ rw (eq-eqb y y refl))

-- ## Lists one after the other: equal wholes with parts of equal lengths have equal parts
append-parts : (a b c d : List ℕ) → length a ≡ length c → a ++ b ≡ c ++ d → (a ≡ c) × (b ≡ d)
append-parts [] b [] d l e = (refl, e)
append-parts [] b (z ∷ c) d l e = absurd (omega (arith, l))
append-parts (x ∷ a) b [] d l e = absurd (omega (arith, l))
append-parts (x ∷ a) b (z ∷ c) d l e =
    let r = append-parts a b c d (omega (arith, l)) (tail-eq_of_cons-eq e) in
    (λ i. head-eq_of_cons-eq e i ∷ r.0 i, r.1)

concat-parts : (f g : ℕ → List ℕ) (n : ℕ) → ((p : ℕ) → p < n → length (f p) ≡ length (g p)) → concat_below n f ≡ concat_below n g
    → (p : ℕ) → p < n → f p ≡ g p
unfolding concat_below
concat-parts f g zero l e p u = absurd (not-suc-le-zero u)
concat-parts f g (suc n) l e p u = go (λ k. concat-parts f g n (λ q v. l q (omega arith)) parts.0 p k) (ℕ_discrete p n)
  where
    parts : (concat_below n f ≡ concat_below n g) × (f n ≡ g n)
    parts =
        let a = ap length e in
        let b = length-append (concat_below n f) (f n) in
        let c = length-append (concat_below n g) (g n) in
        let d = l n (le_refl _) in
        append-parts (concat_below n f) (f n) (concat_below n g) (g n) (omega (arith, a, b, c, d)) e

    go : (p < n → f p ≡ g p) → Dec (p ≡ n) → f p ≡ g p
    go r (yes k) = rw k parts.1
    go r (no k) = r (omega (arith, k))

-- ## Walks
walk-head : (s : List ℕ) (h : Header) (fuel j : ℕ) → get_or (walk s h (suc fuel) j) 0 0 ≡ j
unfolding walk
walk-head s h fuel zero = refl
walk-head s h fuel (suc j) = refl

-- equal walks that end have equal next indices
walk-next : (u v : List ℕ) (h : Header) (fuel j : ℕ) → walk u h fuel j ≡ walk v h fuel j → length (walk u h fuel j) < fuel
    → Every (λ x. (transition_record u h x).next ≡ (transition_record v h x).next) (walk u h fuel j)
unfolding walk
walk-next u v h zero j e l = tt
walk-next u v h (suc fuel) zero e l = tt
walk-next u v h (suc zero) (suc j) e l = absurd (omega arith)
walk-next u v h (suc (suc fuel)) (suc j) e l =
    let t = tail-eq_of_cons-eq e in
    let a = (transition_record u h (suc j)).next in
    let b = (transition_record v h (suc j)).next in
    let n : a ≡ b = sym (walk-head u h fuel a) ∙ ap (λ (z : List ℕ). get_or z 0 0) t ∙ walk-head v h fuel b in
    (n, walk-next u v h (suc fuel) a (t ∙ ap (walk v h (suc fuel)) (sym n)) (omega arith))

-- ## Equal records have equal bytes
-- the first number, by the count of states and the kind
same_first : (x y : ℕ) → x < 65536 → y < 65536 → x % 32768 ≡ y % 32768 → leb 32768 x ≡ leb 32768 y → x ≡ y
same_first x y a b e k = go (dec_lt x 32768) (dec_lt y 32768)
  where
    go : Dec (x < 32768) → Dec (y < 32768) → x ≡ y
    go (yes p) (yes q) = omega (arith, e)
    go (yes p) (no q) = absurd (false≢true (sym (lt-leb 32768 x (omega arith)) ∙ k ∙ le-leb 32768 y (omega (arith, q))))
    go (no p) (yes q) = absurd (false≢true (sym (lt-leb 32768 y (omega arith)) ∙ sym k ∙ le-leb 32768 x (omega (arith, p))))
    go (no p) (no q) = omega (arith, e, p, q)

module _ (u v : List ℕ) (bu : (i : ℕ) → get_or u i 0 < 256) (bv : (i : ℕ) → get_or v i 0 < 256) where
  two_bytes : (i : ℕ) → number_at u i ≡ number_at v i → (get_or u i 0 ≡ get_or v i 0) × (get_or u (i + 1) 0 ≡ get_or v (i + 1) 0)
  unfolding number_at
  two_bytes i e =
      let a = bu i in
      let b = bv i in
      (omega (arith, a, b, e), omega (arith, a, b, e))

  first-number : header_of u ≡ header_of v → number_at u 0 ≡ number_at v 0
  unfolding header_of number_at
  first-number e =
      same_first (number_at u 0) (number_at v 0) (omega (arith, bu 0, bu 1)) (omega (arith, bv 0, bv 1))
      (ap (λ (r : Header). r.states) e) (ap (λ (r : Header). r.named) e)

  header-bytes : header_of u ≡ header_of v → (i : ℕ) → i < 6 → get_or u i 0 ≡ get_or v i 0
  unfolding header_of
  header-bytes e zero l = (two_bytes 0 (first-number e)).0
  header-bytes e (suc zero) l = (two_bytes 0 (first-number e)).1
  header-bytes e (suc (suc zero)) l = (two_bytes 2 (ap (λ (r : Header). r.actions) e)).0
  header-bytes e (suc (suc (suc zero))) l = (two_bytes 2 (ap (λ (r : Header). r.actions) e)).1
  header-bytes e (suc (suc (suc (suc zero)))) l = (two_bytes 4 (ap (λ (r : Header). r.transitions) e)).0
  header-bytes e (suc (suc (suc (suc (suc zero))))) l = (two_bytes 4 (ap (λ (r : Header). r.transitions) e)).1
  header-bytes e (suc (suc (suc (suc (suc (suc i)))))) l = absurd (omega arith)

  state-bytes : (k : ℕ) → state_record_at u k ≡ state_record_at v k → (i : ℕ) → i < 4 → get_or u (k + i) 0 ≡ get_or v (k + i) 0
  unfolding state_record_at
  state-bytes k e zero l = rw add-zero (ap (λ (r : StateRecord). r.mark) e)
  state-bytes k e (suc zero) l = ap (λ (r : StateRecord). r.spare) e
  state-bytes k e (suc (suc zero)) l = (two_bytes (k + 2) (ap (λ (r : StateRecord). r.first) e)).0
  state-bytes k e (suc (suc (suc zero))) l =
      let a : k + 2 + 1 ≡ k + 3 = omega arith in rw a at (two_bytes (k + 2) (ap (λ (r : StateRecord). r.first) e)).1
  state-bytes k e (suc (suc (suc (suc i)))) l = absurd (omega arith)

  transition-bytes : (k : ℕ) → transition_record_at u k ≡ transition_record_at v k → (i : ℕ) → i < 6 → get_or u (k + i) 0 ≡ get_or v (k + i) 0
  unfolding transition_record_at
  transition-bytes k e zero l = rw add-zero (ap (λ (r : TransitionRecord). r.action) e)
  transition-bytes k e (suc zero) l = ap (λ (r : TransitionRecord). r.spare) e
  transition-bytes k e (suc (suc zero)) l = (two_bytes (k + 2) (ap (λ (r : TransitionRecord). r.target) e)).0
  transition-bytes k e (suc (suc (suc zero))) l =
      let a : k + 2 + 1 ≡ k + 3 = omega arith in rw a at (two_bytes (k + 2) (ap (λ (r : TransitionRecord). r.target) e)).1
  transition-bytes k e (suc (suc (suc (suc zero)))) l = (two_bytes (k + 4) (ap (λ (r : TransitionRecord). r.next) e)).0
  transition-bytes k e (suc (suc (suc (suc (suc zero))))) l =
      let a : k + 4 + 1 ≡ k + 5 = omega arith in rw a at (two_bytes (k + 4) (ap (λ (r : TransitionRecord). r.next) e)).1
  transition-bytes k e (suc (suc (suc (suc (suc (suc i)))))) l = absurd (omega arith)

  -- encodings with the same header and the same records are equal
  records-ext : (h : Header) → header_of u ≡ header_of v → length u ≡ encoding_length h → length v ≡ length u
      → ((i : ℕ) → i < labels_length h → get_or u (6 + i) 0 ≡ get_or v (6 + i) 0)
      → ((p : ℕ) → p < h.states → state_record u h p ≡ state_record v h p)
      → ((i : ℕ) → i < h.transitions → transition_record u h (suc i) ≡ transition_record v h (suc i))
      → u ≡ v
  unfolding state_record transition_record
  records-ext h e lu lv n a b =
      ext_get_or 0 u v (sym lv) (λ i l. go i l (dec_lt i 6) (dec_lt i (6 + labels_length h)) (dec_lt i (6 + labels_length h + 4 * h.states)))
    where
      go : (i : ℕ) → i < length u → Dec (i < 6) → Dec (i < 6 + labels_length h) → Dec (i < 6 + labels_length h + 4 * h.states) → get_or u i 0 ≡ get_or v i 0
      go i l (yes k) c d = header-bytes e i k
      go i l (no k) (yes c) d =
          let at : 6 + (i - 6) ≡ i = omega (arith, k) in
          rw at at (n (i - 6) (omega (arith, k, c)))
      go i l (no k) (no c) (yes d) =
          let p = (i - 6 - labels_length h) / 4 in
          let j = (i - 6 - labels_length h) % 4 in
          let at : 6 + labels_length h + 4 * p + j ≡ i = omega (arith, c) in
          rw at at (state-bytes (6 + labels_length h + 4 * p) (a p (omega (arith, c, d))) j (omega arith))
      go i l (no k) (no c) (no d) =
          let q = (i - 6 - labels_length h - 4 * h.states) / 6 in
          let j = (i - 6 - labels_length h - 4 * h.states) % 6 in
          let to : suc q - 1 ≡ q = omega arith in
          let at : 6 + labels_length h + 4 * h.states + 6 * q + j ≡ i = omega (arith, d) in
          rw at at (transition-bytes (6 + labels_length h + 4 * h.states + 6 * q) (rw to at (b q (omega (arith, d, l, lu)))) j (omega arith))

-- ## The records of two encodings in normal form
module _ (u v : List ℕ) (h : Header) (gu : ReadableAs u h) (gv : ReadableAs v h) (e : lts_of u ≡ lts_of v) where
  same_codes : (p : ℕ) → p < h.states → (x : ℕ) → member x (map (successor u h) (chain u h p)) ≡ member x (map (successor v h) (chain v h p))
  same_codes p l x = go (dec_lt (x % 256) h.states)
    where
      is : 256 * (x / 256) + x % 256 ≡ x
      is = omega arith

      go : Dec (x % 256 < h.states) → member x (map (successor u h) (chain u h p)) ≡ member x (map (successor v h) (chain v h p))
      go (yes k) =
          let a = rw is at (transition-member u h gu p (x / 256) (x % 256) l k) in
          let b = rw is at (transition-member v h gv p (x / 256) (x % 256) l k) in
          sym a ∙ ap (λ L. L.transition p (x / 256) (x % 256)) e ∙ b
      go (no k) =
          member-keeps (Good h) x _ (good-successors u h gu p l) (λ q. k q.target)
          ∙ sym (member-keeps (Good h) x _ (good-successors v h gv p l) (λ q. k q.target))

  module _ (nu : IsNormal u h) (nv : IsNormal v h) where
    codes : (p : ℕ) → p < h.states → map (successor u h) (chain u h p) ≡ map (successor v h) (chain v h p)
    codes p l = rising-ext 0 _ _ (chain-rising u h gu nu p l) (chain-rising v h gv nv p l) (same_codes p l)

    chains : (p : ℕ) → p < h.states → chain u h p ≡ chain v h p
    unfolding reached
    chains = concat-parts (chain u h) (chain v h) h.states
        (λ p l. sym (length-map (chain u h p) (successor u h)) ∙ ap length (codes p l) ∙ length-map (chain v h p) (successor v h))
        (nu.consecutive ∙ sym nv.consecutive)

    firsts : (p : ℕ) → p < h.states → (state_record u h p).first ≡ (state_record v h p).first
    unfolding chain
    firsts p l =
        sym (walk-head u h h.transitions (state_record u h p).first)
        ∙ ap (λ (z : List ℕ). get_or z 0 0) (chains p l)
        ∙ walk-head v h h.transitions (state_record v h p).first

    nexts : (i : ℕ) → i < h.transitions → (transition_record u h (suc i)).next ≡ (transition_record v h (suc i)).next
    unfolding chain
    nexts = each-record u h nu.consecutive (λ x. (transition_record u h x).next ≡ (transition_record v h x).next) (λ p l.
        walk-next u v h (suc h.transitions) (state_record u h p).first
        (chains p l ∙ ap (walk v h (suc h.transitions)) (sym (firsts p l))) (chain-ends u h gu nu p l))

    map_each : (f g : ℕ → ℕ) (l : List ℕ) → map f l ≡ map g l → Every (λ x. f x ≡ g x) l
    map_each f g [] q = tt
    map_each f g (x ∷ l) q = (head-eq_of_cons-eq q, map_each f g l (tail-eq_of_cons-eq q))

    successors : (i : ℕ) → i < h.transitions → successor u h (suc i) ≡ successor v h (suc i)
    successors = each-record u h nu.consecutive (λ x. successor u h x ≡ successor v h x) (λ p l.
        map_each (successor u h) (successor v h) (chain u h p) (codes p l ∙ ap (map (successor v h)) (sym (chains p l))))

    spare-state : (s : List ℕ) → ReadableAs s h → (p : ℕ) → p < h.states → (state_record s h p).spare ≡ 0
    unfolding states_fit state_fits
    spare-state s g p l =
        let q = simp and-eq-true_iff at (all-at h.states _ g.recorded.states p l) in
        omega (arith, eqb-true)

    spare-transition : (s : List ℕ) → ReadableAs s h → (i : ℕ) → i < h.transitions → (transition_record s h (suc i)).spare ≡ 0
    unfolding transitions_fit transition_fits
    spare-transition s g i l =
        let q = simp (add-one, and-eq-true_iff) at (all-at h.transitions _ g.recorded.transitions i l) in
        omega (arith, eqb-true)

    states : (p : ℕ) → p < h.states → state_record u h p ≡ state_record v h p
    states p l =
        let m = mark-byte u h gu p l ∙ ap (λ L. cond (L.terminating p) 1 0) e ∙ sym (mark-byte v h gv p l) in
        let s = spare-state u gu p l ∙ sym (spare-state v gv p l) in
        let f = firsts p l in
        λ i. record { mark = m i; spare = s i; first = f i }

    transitions : (i : ℕ) → i < h.transitions → transition_record u h (suc i) ≡ transition_record v h (suc i)
    unfolding successor
    transitions i l =
        let b = gu.recorded.sized.bounds in
        let x = (transition-known u h gu.recorded (suc i) (omega arith) l).target in
        let y = (transition-known v h gv.recorded (suc i) (omega arith) l).target in
        let c = successors i l in
        let a : (transition_record u h (suc i)).action ≡ (transition_record v h (suc i)).action = omega arith in
        let t : (transition_record u h (suc i)).target ≡ (transition_record v h (suc i)).target = omega arith in
        let s = spare-transition u gu i l ∙ sym (spare-transition v gv i l) in
        let n = nexts i l in
        λ j. record { action = a j; spare = s j; target = t j; next = n j }

    labels : labelling_of u ≡ labelling_of v → (i : ℕ) → i < labels_length h → get_or u (6 + i) 0 ≡ get_or v (6 + i) 0
    labels k i l =
        let same = sym (sheet-records u h gu) ∙ ap records_of k ∙ sheet-records v h gv in
        sym (labels_from u h i l) ∙ ap (λ (x : List ℕ). get_or x i 0) same ∙ labels_from v h i l

    pub only_one : IsBytes u → IsBytes v → labelling_of u ≡ labelling_of v → u ≡ v
    only_one bu bv k =
        let lu = gu.recorded.sized.long in
        let lv = gv.recorded.sized.long in
        records-ext u v (small u bu) (small v bv) h (sym gu.header ∙ gv.header) lu (lv ∙ sym lu) (labels k) states transitions
      where
        past : (s : List ℕ) (i : ℕ) → length s ≤ i → get_or s i 0 ≡ 0
        past [] i l = refl
        past (x ∷ s) zero l = absurd (not-suc-le-zero l)
        past (x ∷ s) (suc i) l = past s i (omega arith)

        small : (s : List ℕ) → IsBytes s → (i : ℕ) → get_or s i 0 < 256
        small s b i = elim (dec_lt i (length s)) [ yes k ↦ b i k | no k ↦ rw (past s i (omega (arith, k))) (omega arith) ]
