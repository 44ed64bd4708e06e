-- The chains hold each record once exactly where each is on some chain and none is named twice.
use Prim.Native.Nat.{ℕ, zero, suc, ◌+◌, ◌-◌, ◌≤◌, ◌<◌}
use mathlib.Core.Path.{◌≡◌, refl, sym, ap, ap₂, ◌∙◌}
use mathlib.Core.Logic.{⊎_elim, ◌↔◌}
use mathlib.Core.Bool.{Bool, true, false, cond, and-eq-true_iff}
use mathlib.Core.List.{List, [], ◌∷◌, ◌++◌, map, map-append}
use native.Mathlib.Omega.{arith}
use native.Mathlib.Numerals.{add-one}
use native.Mathlib.Nat.{not-suc-le-zero, le_refl, le_trans}
use native.Mathlib.Decide.{ℕ_discrete}
use borrow.Author.Tests.{eq-eqb, eqb-true, ne_eqb, leb-true, le-leb, lt-leb, not-true}
use lib.ListN.{length, get_or, length-append, get_or-append}
use lib.Seq.{get_or-append-add}
use lib.Dec.{T, eqb}
use Rattle.lts.specs.Bounded.{sum_below, concat_below, list_below}
use Rattle.lts.proofs.Bounded.{dec, below_suc}
use Rattle.lts.proofs.Lists.{Every, every_more}
use Rattle.lts.proofs.Below.{clash, T_true, true-T, lt-or-ge, all-at, all_of, sum-zero, sum-cons, length-list_below, get_or-list_below}
use Rattle.lts.proofs.Count.{sum-le, sum-single}
use Rattle.encoding.specs.declared.Header.{Header}
use Rattle.encoding.specs.Records.{state_record}
use Rattle.encoding.specs.Encoding.{walk, chain, reached, on_some_chain, all_reached, indices, occurrences, named_twice, none_twice, member, distinct}
use Rattle.encoding.specs.Checked.{Recorded, chains_fit}
use Rattle.encoding.specs.Read.{OnChain, first, next, Twice, NamedTwice}
use Rattle.encoding.proofs.Chains.{chain-all, reached-all, first-known, transition-known}
use Rattle.encoding.proofs.Members.{member-every, occurrences-append, member-occurs, absent_none, distinct-few, distinct-once, once-distinct, place-occurs, places-occur, occur-places, occurrences-map, occurrences-list}
use Rattle.encoding.proofs.OnChain.{to, after, walk-full, on-chain-iff}

abbrev one : ℕ → ℕ → ℕ
one j y = cond (eqb j y) 1 0

module _ (s : List ℕ) (h : Header) where
  abbrev from : ℕ → ℕ
  from p = (state_record s h p).first

  abbrev end : ℕ → ℕ
  end p = after s h (suc h.transitions) (from p)

  -- ## The indices that name a record are those at the places of its list
  -- the start of a walk and the next indices on it are its records and the index that it has come to
  walk-shift : (f i : ℕ) → i ∷ map (to s h) (walk s h f i) ≡ walk s h f i ++ (after s h f i ∷ [])
  unfolding walk after
  walk-shift zero i = refl
  walk-shift (suc f) zero = refl
  walk-shift (suc f) (suc j) = ap (λ (l : List ℕ). suc j ∷ l) (walk-shift f (to s h (suc j)))

  -- so on all chains: first indices and next indices are the records on them and their ends
  balance : (j p : ℕ) → sum_below p (λ q. one j (from q)) + occurrences j (map (to s h) (reached s h p)) ≡ occurrences j (reached s h p) + sum_below p (λ q. one j (end q))
  unfolding reached concat_below sum_below chain occurrences
  balance j zero = refl
  balance j (suc p) =
      let w = walk s h (suc h.transitions) (from p) in
      let done : ◌≡◌ {A = List ℕ} (reached s h p) (concat_below p (chain s h)) = refl in
      let shift : one j (from p) + occurrences j (map (to s h) w) ≡ occurrences j w + (one j (end p) + 0) =
      ap (occurrences j) (walk-shift (suc h.transitions) (from p)) ∙ occurrences-append j w (end p ∷ []) in
      rw (map-append (to s h) (reached s h p) w, occurrences-append j (map (to s h) (reached s h p)) (map (to s h) w), occurrences-append j (reached s h p) w)
      (omega (arith, shift, balance j p))

-- ## The list of indices
module _ (s : List ℕ) (h : Header) where
  indices-long : length (indices s h) ≡ h.states + h.transitions
  unfolding indices
  indices-long =
      length-append (list_below h.states (from s h)) _
      ∙ ap₂ (λ (x y : ℕ). x + y) (length-list_below h.states (from s h)) (length-list_below h.transitions (λ i. to s h (i + 1)))

  -- a state's first index and a record's next index in it
  first-place : (p : ℕ) → p < h.states → get_or (indices s h) p 0 ≡ from s h p
  unfolding indices
  first-place p l =
      let long = length-list_below h.states (from s h) in
      get_or-append (list_below h.states (from s h)) _ 0 p (omega (arith, long, l)) ∙ get_or-list_below 0 h.states (from s h) p l

  next_place : (i : ℕ) → i < h.transitions → get_or (indices s h) (h.states + i) 0 ≡ to s h (i + 1)
  unfolding indices
  next_place i l =
      let long = length-list_below h.states (from s h) in
      let seam = get_or-append-add (list_below h.states (from s h)) (list_below h.transitions (λ i. to s h (i + 1))) i 0 in
      (rw long at seam) ∙ get_or-list_below 0 h.transitions (λ i. to s h (i + 1)) i l

  indices-count : (j : ℕ) → occurrences j (indices s h) ≡ sum_below h.states (λ q. one j (from s h q)) + sum_below h.transitions (λ i. one j (to s h (i + 1)))
  unfolding indices
  indices-count j =
      occurrences-append j (list_below h.states (from s h)) _
      ∙ ap₂ (λ (x y : ℕ). x + y) (occurrences-list (from s h) j h.states) (occurrences-list (λ i. to s h (i + 1)) j h.transitions)

  pub named-iff : (j : ℕ) → T (named_twice s h j) ↔ NamedTwice s h j
  unfolding named_twice
  named-iff j = (
    λ t. occur-places j (indices s h) (leb-true 2 _ (T_true _ t)),
    λ r. true-T _ (le-leb 2 _ (places-occur j (indices s h) r.one r.other r.apart r.inside r.first r.second)),
  )

module _ (s : List ℕ) (h : Header) (g : Recorded s h) where
  abbrev records : List ℕ
  records = reached s h h.states

  known : Every (λ x. (1 ≤ x) × (x ≤ h.transitions)) records
  known = reached-all s h g (λ x. (1 ≤ x) × (x ≤ h.transitions)) (λ j a b. (a, b))

  -- the next indices on all chains, by the records that they stand in
  by-records : (j : ℕ) → occurrences j (map (to s h) records) ≡ sum_below (suc h.transitions) (λ y. cond (eqb j (to s h y)) (occurrences y records) 0)
  by-records j = occurrences-map (to s h) j (suc h.transitions) records (every_more _ _ records (λ x q. omega (arith, q.1)) known)

  -- ## Chains that hold each record once: none is named twice
  part-occurs : (x n q : ℕ) → q < n → occurrences x (chain s h q) ≤ occurrences x (reached s h n)
  unfolding reached concat_below
  part-occurs x zero q l = absurd (not-suc-le-zero l)
  part-occurs x (suc n) q l =
      let two = occurrences-append x (concat_below n (chain s h)) (chain s h n) in
      ⊎_elim (λ (m : q < n). omega (arith, two, part-occurs x n q m)) (λ (m : q ≡ n). rw m (omega (arith, two))) (below_suc l)

  module _ (e : chains_fit s h ≡ true) where
    single : (x : ℕ) → occurrences x records ≤ 1
    unfolding chains_fit
    single = distinct-once records ((and-eq-true_iff (distinct records) _).0 e).0

    on_some : (i : ℕ) → i < h.transitions → 1 ≤ occurrences (i + 1) records
    unfolding chains_fit all_reached on_some_chain
    on_some i l = member-occurs (i + 1) records (true-T _ (all-at h.transitions _ ((and-eq-true_iff (distinct records) _).0 e).1 i l))

    ended : (q : ℕ) → q < h.states → end s h q ≡ 0
    unfolding chain
    ended q l = elim (ℕ_discrete (end s h q) 0) [
      | yes z ↦ z
      | no n ↦
          let d = once-distinct (chain s h q) (λ x. le_trans (part-occurs x h.states q l) (single x)) in
          let few = distinct-few h.transitions (chain s h q) d (chain-all s h g (λ x. (1 ≤ x) × (x ≤ h.transitions)) (λ j a b. (a, b)) q l) in
          absurd (omega (arith, few, walk-full s h (suc h.transitions) (from s h q) n))
    ]

    -- a record's next index is counted where the record is on a chain
    fewer : (j : ℕ) → sum_below h.transitions (λ i. one j (to s h (i + 1))) ≤ occurrences j (map (to s h) records)
    fewer j =
        let f : ℕ → ℕ = λ y. cond (eqb j (to s h y)) (occurrences y records) 0 in
        let less = sum-le h.transitions (λ i. one j (to s h (i + 1))) (λ i. f (suc i)) (λ i l. rw add-one (at (eqb j (to s h (suc i))) i l)) in
        omega (arith, by-records j, sum-cons h.transitions f, less)
      where
        at : (b : Bool) (i : ℕ) → i < h.transitions → cond b 1 0 ≤ cond b (occurrences (suc i) records) 0
        at true i l = rw add-one at (on_some i l)
        at false i l = le_refl 0

    pub fit-none-twice : none_twice s h ≡ true
    unfolding none_twice named_twice
    fit-none-twice = all_of h.transitions _ (λ i l.
        let j = i + 1 in
        let none = sum-zero h.states (λ q. one j (end s h q)) (λ q u. rw (ended q u, ne_eqb (i + 1) 0 (λ z. omega (arith, z)))) in
        rw (lt-leb 2 (occurrences j (indices s h)) (omega (arith, indices-count s h j, fewer j, balance s h j h.states, single j, none))))

  -- ## Records that are not named twice: the chains hold none twice
  module _ (e : none_twice s h ≡ true) where
    once-named : (j : ℕ) → 1 ≤ j → j ≤ h.transitions → Twice j (indices s h) → ⊥
    unfolding none_twice
    once-named j low high r =
        let at_j : j - 1 + 1 ≡ j = omega arith in
        let z = rw at_j at (all-at h.transitions _ e (j - 1) (omega arith)) in
        clash {b = named_twice s h j} (T_true _ ((named-iff s h j).1 r)) (not-true _ z)

    few-named : (j : ℕ) → 1 ≤ j → j ≤ h.transitions → occurrences j (indices s h) ≤ 1
    few-named j low high = ⊎_elim (λ (l : occurrences j (indices s h) < 2). omega (arith, l))
        (λ (m : 2 ≤ occurrences j (indices s h)). absurd (once-named j low high (occur-places j (indices s h) m))) (lt-or-ge (occurrences j (indices s h)) 2)

    -- where the index at x names j, no other record on a chain has j as its next
    module _ (j : ℕ) (low : 1 ≤ j) (high : j ≤ h.transitions) (x : ℕ) (inside : x < length (indices s h)) (names : get_or (indices s h) x 0 ≡ j) where
      no_other : (y : ℕ) → (1 ≤ y → h.states + (y - 1) ≡ x → ⊥) → cond (eqb j (to s h y)) (occurrences y records) 0 ≡ 0
      no_other y apart = ⊎_elim (λ t. on (eqb j (to s h y)) refl t) (λ n. off (eqb j (to s h y)) (absent_none y records n)) (dec (member y records))
        where
          off : (b : Bool) → occurrences y records ≡ 0 → cond b (occurrences y records) 0 ≡ 0
          off true z = z
          off false z = refl

          on : (b : Bool) → eqb j (to s h y) ≡ b → T (member y records) → cond b (occurrences y records) 0 ≡ 0
          on true q t =
              let k = member-every _ y records known t in
              let at : y - 1 + 1 ≡ y = omega (arith, k) in
              let place : get_or (indices s h) (h.states + (y - 1)) 0 ≡ j = next_place s h (y - 1) (omega (arith, k)) ∙ rw at (sym (eqb-true j (to s h y) q)) in
              let long = indices-long s h in
              absurd (⊎_elim
              (λ (l : x < h.states + (y - 1)). once-named j low high (record { one = x; other = h.states + (y - 1); apart = l; inside = omega (arith, long, k); first = names; second = place }))
              (λ (l : h.states + (y - 1) ≤ x). once-named j low high (record { one = h.states + (y - 1); other = x; apart = omega (arith, l, apart k.0); inside = inside; first = place; second = names }))
              (lt-or-ge x (h.states + (y - 1))))
          on false q t = refl

    chain-once : (p : ℕ) → p < h.states → {j : ℕ} → OnChain s h p j → occurrences j records ≤ 1
    unfolding on_some_chain
    chain-once p l (first j low q) =
        let high : j ≤ h.transitions = omega (arith, (first-known s h g p l).bound, q) in
        let long = indices-long s h in
        let none = sum-zero (suc h.transitions) (λ y. cond (eqb j (to s h y)) (occurrences y records) 0)
        (λ y u. no_other j low high p (omega (arith, long, l)) (first-place s h p l ∙ q) y (λ a z. omega (arith, z, l))) in
        omega (arith, balance s h j h.states, by-records j, none, few-named j low high, indices-count s h j)
    chain-once p l (next i j o low q) =
        let i-known = member-every _ i records known ((on-chain-iff s h g i).1 (p, l, o)) in
        let at : i - 1 + 1 ≡ i = omega (arith, i-known) in
        let high : j ≤ h.transitions = omega (arith, (transition-known s h g i i-known.0 i-known.1).next, q) in
        let long = indices-long s h in
        let place : get_or (indices s h) (h.states + (i - 1)) 0 ≡ j = next_place s h (i - 1) (omega (arith, i-known)) ∙ rw at q in
        let f : ℕ → ℕ = λ y. cond (eqb j (to s h y)) (occurrences y records) 0 in
        let here : f i ≤ 1 = rw (eq-eqb j (to s h i) (sym q)) (chain-once p l o) in
        let most = sum-single (suc h.transitions) i 1 f here
        (λ y n. no_other j low high (h.states + (i - 1)) (omega (arith, long, i-known)) place y (λ a z. n (omega (arith, z, i-known, a)))) in
        let nexts = list_below h.transitions (λ i. to s h (i + 1)) in
        let some = place-occurs j nexts (i - 1) (omega (arith, length-list_below h.transitions (λ i. to s h (i + 1)), i-known))
        (get_or-list_below 0 h.transitions (λ i. to s h (i + 1)) (i - 1) (omega (arith, i-known)) ∙ rw at q) in
        omega (arith, balance s h j h.states, by-records j, most, few-named j low high, indices-count s h j, some, occurrences-list (λ i. to s h (i + 1)) j h.transitions)

    pub none-twice-distinct : distinct records ≡ true
    unfolding on_some_chain
    none-twice-distinct = once-distinct records (λ x. ⊎_elim
        (λ t. let r = (on-chain-iff s h g x).0 t in chain-once r.0 r.1 r.2)
        (λ n. omega (arith, absent_none x records n)) (dec (member x records)))
