-- `reader::read_encoding` meets its contract: what is left of the rules after each check, and what the next check asks.
use mathlib.Core.Path.{refl, sym, ◌∙◌}
use borrow.Author.Tests.{eq-eqb, ne_eqb, le-leb, lt-leb}
use Rattle.lts.proofs.Rule.{stop, pass, done}
use Rattle.encoding.specs.Encoding.{headed_rules}
use Rattle.encoding.specs.Checked.{Bounds, Sized, Recorded}
use Rattle.reader.proofs.Promise.{read-promised}
use Rattle.encoding.proofs.Reader.{ReadTo, in-range, headed, sheet-refused, sheet-passed, kept-chains}
use mathlib.Core.Path.{ap}
use mathlib.Core.Bool.{not}
use Rattle.reader.proofs.read_encoding.Goals.{After-read-h, Else-not-chains_fit, Else-not-in_range, Else-not-labels_fit, Else-not-states_fit, Else-not-transitions_fit, Else-s-length}
use Rattle.reader.proofs.read_encoding.Goals as goal

-- what all the rules come to is what is left of them, with the header that was read; and what the next check asks
after-1 : (c : After-read-h) → ReadTo c.args.s.now 1 c.read-h.result
unfolding headed_rules
after-1 c = pass _ _ _ (headed _ c.read-h.ensures) (sym (le-leb _ _ c.if-s-lt-BYTES.false)) refl

after-2 : (c : Else-not-in_range) → (ReadTo c.args.s.now 1 c.read-h.result) → ReadTo c.args.s.now 2 c.read-h.result × Bounds c.read-h.result
unfolding headed_rules
after-2 c a-after-1 =
    let e = c.in_range.ensures in
    (pass _ _ _ (a-after-1) e (ap not c.if-not-in_range.false), in-range _ (sym e ∙ c.if-not-in_range.false))

after-3 : (c : Else-s-length) → (ReadTo c.args.s.now 2 c.read-h.result × Bounds c.read-h.result) → ReadTo c.args.s.now 3 c.read-h.result × Sized c.args.s.now c.read-h.result
unfolding headed_rules
after-3 c a-after-2 =
    let p = a-after-2 in
    let e = c.if-s-length.false ∙ c.length.ensures in
    (pass _ _ _ p.0 (sym (eq-eqb _ _ e)) refl, record { bounds = p.1; long = e })

after-4 : (c : Else-not-labels_fit) → (ReadTo c.args.s.now 3 c.read-h.result × Sized c.args.s.now c.read-h.result) → ReadTo c.args.s.now 4 c.read-h.result × Sized c.args.s.now c.read-h.result
unfolding headed_rules
after-4 c a-after-3 = let p = a-after-3 in (pass _ _ _ p.0 c.labels_fit.ensures (ap not c.if-not-labels_fit.false), p.1)

after-5 : (c : Else-not-states_fit) → (ReadTo c.args.s.now 4 c.read-h.result × Sized c.args.s.now c.read-h.result) → ReadTo c.args.s.now 5 c.read-h.result × Sized c.args.s.now c.read-h.result
unfolding headed_rules
after-5 c a-after-4 = let p = a-after-4 in (pass _ _ _ p.0 c.states_fit.ensures (ap not c.if-not-states_fit.false), p.1)

after-6 : (c : Else-not-transitions_fit) → (ReadTo c.args.s.now 5 c.read-h.result × Sized c.args.s.now c.read-h.result) → ReadTo c.args.s.now 6 c.read-h.result × Recorded c.args.s.now c.read-h.result
unfolding headed_rules
after-6 c a-after-5 =
    let p = a-after-5 in
    let e = c.transitions_fit.ensures in (
      pass _ _ _ p.0 e (ap not c.if-not-transitions_fit.false),
      record {
        sized = p.1;
        states = sym c.states_fit.ensures ∙ c.if-not-states_fit.false;
        transitions = sym e ∙ c.if-not-transitions_fit.false;
      },
    )

-- the check of the chains is that of two rules
after-7 : (c : Else-not-chains_fit) → (ReadTo c.args.s.now 6 c.read-h.result × Recorded c.args.s.now c.read-h.result) → ReadTo c.args.s.now 8 c.read-h.result × Recorded c.args.s.now c.read-h.result
unfolding headed_rules
after-7 c a-after-6 =
    let p = a-after-6 in
    let k = kept-chains _ _ p.1 (sym c.chains_fit.ensures ∙ c.if-not-chains_fit.false) in
    (pass _ _ _ (pass _ _ _ p.0 (sym k.0) refl) (sym k.1) refl, p.1)

pub length-requires : goal.length-requires
length-requires c = (after-2 c (after-1 (goal.at.length-requires c).After-read-h)).1

pub returns-then-s-length : goal.returns-then-s-length
unfolding headed_rules
returns-then-s-length c =
    let e = sym (ne_eqb _ _ (λ e. c.if-s-length.true (e ∙ sym c.length.ensures))) in
    let e = sheet-refused c.args.s.now (stop _ _ _ (after-2 (goal.at.returns-then-s-length c).Else-not-in_range (after-1 (goal.at.returns-then-s-length c).After-read-h)).0 e refl) in record { value = e; read_promise = read-promised c.args.s.now e }

pub labels_fit-requires : goal.labels_fit-requires
labels_fit-requires c = (after-3 c (after-2 (goal.at.labels_fit-requires c).Else-not-in_range (after-1 (goal.at.labels_fit-requires c).After-read-h))).1

pub returns-then-not-labels_fit : goal.returns-then-not-labels_fit
unfolding headed_rules
returns-then-not-labels_fit c = let e = sheet-refused c.args.s.now (stop _ _ _ (after-3 (goal.at.returns-then-not-labels_fit c).Else-s-length (after-2 (goal.at.returns-then-not-labels_fit c).Else-not-in_range (after-1 (goal.at.returns-then-not-labels_fit c).After-read-h))).0 c.labels_fit.ensures (ap not c.if-not-labels_fit.true)) in record { value = e; read_promise = read-promised c.args.s.now e }

pub states_fit-requires : goal.states_fit-requires
states_fit-requires c = (after-4 c (after-3 (goal.at.states_fit-requires c).Else-s-length (after-2 (goal.at.states_fit-requires c).Else-not-in_range (after-1 (goal.at.states_fit-requires c).After-read-h)))).1

pub returns-then-not-states_fit : goal.returns-then-not-states_fit
unfolding headed_rules
returns-then-not-states_fit c = let e = sheet-refused c.args.s.now (stop _ _ _ (after-4 (goal.at.returns-then-not-states_fit c).Else-not-labels_fit (after-3 (goal.at.returns-then-not-states_fit c).Else-s-length (after-2 (goal.at.returns-then-not-states_fit c).Else-not-in_range (after-1 (goal.at.returns-then-not-states_fit c).After-read-h)))).0 c.states_fit.ensures (ap not c.if-not-states_fit.true)) in record { value = e; read_promise = read-promised c.args.s.now e }

pub transitions_fit-requires : goal.transitions_fit-requires
transitions_fit-requires c = (after-5 c (after-4 (goal.at.transitions_fit-requires c).Else-not-labels_fit (after-3 (goal.at.transitions_fit-requires c).Else-s-length (after-2 (goal.at.transitions_fit-requires c).Else-not-in_range (after-1 (goal.at.transitions_fit-requires c).After-read-h))))).1

pub returns-then-not-transitions_fit : goal.returns-then-not-transitions_fit
unfolding headed_rules
returns-then-not-transitions_fit c = let e = sheet-refused c.args.s.now (stop _ _ _ (after-5 (goal.at.returns-then-not-transitions_fit c).Else-not-states_fit (after-4 (goal.at.returns-then-not-transitions_fit c).Else-not-labels_fit (after-3 (goal.at.returns-then-not-transitions_fit c).Else-s-length (after-2 (goal.at.returns-then-not-transitions_fit c).Else-not-in_range (after-1 (goal.at.returns-then-not-transitions_fit c).After-read-h))))).0 c.transitions_fit.ensures (ap not c.if-not-transitions_fit.true)) in record { value = e; read_promise = read-promised c.args.s.now e }

pub chains_fit-requires : goal.chains_fit-requires
chains_fit-requires c = (after-6 c (after-5 (goal.at.chains_fit-requires c).Else-not-states_fit (after-4 (goal.at.chains_fit-requires c).Else-not-labels_fit (after-3 (goal.at.chains_fit-requires c).Else-s-length (after-2 (goal.at.chains_fit-requires c).Else-not-in_range (after-1 (goal.at.chains_fit-requires c).After-read-h)))))).1

pub chain_refusal-requires : goal.chain_refusal-requires
chain_refusal-requires c = ((after-6 (goal.at.chain_refusal-requires c).Else-not-transitions_fit (after-5 (goal.at.chain_refusal-requires c).Else-not-states_fit (after-4 (goal.at.chain_refusal-requires c).Else-not-labels_fit (after-3 (goal.at.chain_refusal-requires c).Else-s-length (after-2 (goal.at.chain_refusal-requires c).Else-not-in_range (after-1 (goal.at.chain_refusal-requires c).After-read-h)))))).1, sym c.chains_fit.ensures ∙ c.if-not-chains_fit.true)

pub returns-then-not-chains_fit : goal.returns-then-not-chains_fit
unfolding headed_rules
returns-then-not-chains_fit c = let e = sheet-refused c.args.s.now ((after-6 (goal.at.returns-then-not-chains_fit c).Else-not-transitions_fit (after-5 (goal.at.returns-then-not-chains_fit c).Else-not-states_fit (after-4 (goal.at.returns-then-not-chains_fit c).Else-not-labels_fit (after-3 (goal.at.returns-then-not-chains_fit c).Else-s-length (after-2 (goal.at.returns-then-not-chains_fit c).Else-not-in_range (after-1 (goal.at.returns-then-not-chains_fit c).After-read-h)))))).0 ∙ c.chain_refusal.ensures) in record { value = e; read_promise = read-promised c.args.s.now e }

pub successors_fit-requires : goal.successors_fit-requires
successors_fit-requires c = (after-7 c (after-6 (goal.at.successors_fit-requires c).Else-not-transitions_fit (after-5 (goal.at.successors_fit-requires c).Else-not-states_fit (after-4 (goal.at.successors_fit-requires c).Else-not-labels_fit (after-3 (goal.at.successors_fit-requires c).Else-s-length (after-2 (goal.at.successors_fit-requires c).Else-not-in_range (after-1 (goal.at.successors_fit-requires c).After-read-h))))))).1

pub returns-then-not-successors_fit : goal.returns-then-not-successors_fit
unfolding headed_rules
returns-then-not-successors_fit c = let e = sheet-refused c.args.s.now (stop _ _ _ (after-7 (goal.at.returns-then-not-successors_fit c).Else-not-chains_fit (after-6 (goal.at.returns-then-not-successors_fit c).Else-not-transitions_fit (after-5 (goal.at.returns-then-not-successors_fit c).Else-not-states_fit (after-4 (goal.at.returns-then-not-successors_fit c).Else-not-labels_fit (after-3 (goal.at.returns-then-not-successors_fit c).Else-s-length (after-2 (goal.at.returns-then-not-successors_fit c).Else-not-in_range (after-1 (goal.at.returns-then-not-successors_fit c).After-read-h))))))).0 c.successors_fit.ensures (ap not c.if-not-successors_fit.true)) in record { value = e; read_promise = read-promised c.args.s.now e }

pub returns : goal.returns
unfolding headed_rules
returns c =
    let h = c.read-h.ensures in
    let e = sheet-passed c.args.s.now h (done (pass _ _ _ (after-7 (goal.at.returns c).Else-not-chains_fit (after-6 (goal.at.returns c).Else-not-transitions_fit (after-5 (goal.at.returns c).Else-not-states_fit (after-4 (goal.at.returns c).Else-not-labels_fit (after-3 (goal.at.returns c).Else-s-length (after-2 (goal.at.returns c).Else-not-in_range (after-1 (goal.at.returns c).After-read-h))))))).0 c.successors_fit.ensures (ap not c.if-not-successors_fit.false))) in record { value = e; read_promise = read-promised c.args.s.now e }

pub returns-then-s-lt-BYTES : goal.returns-then-s-lt-BYTES
unfolding headed_rules
returns-then-s-lt-BYTES c = let e = sheet-refused c.args.s.now (stop _ _ _ (headed _ refl) (sym (lt-leb _ _ c.if-s-lt-BYTES.true)) refl) in record { value = e; read_promise = read-promised c.args.s.now e }

pub returns-then-not-in_range : goal.returns-then-not-in_range
unfolding headed_rules
returns-then-not-in_range c = let e = sheet-refused c.args.s.now (stop _ _ _ (after-1 (goal.at.returns-then-not-in_range c).After-read-h) c.in_range.ensures (ap not c.if-not-in_range.true)) in record { value = e; read_promise = read-promised c.args.s.now e }
