-- What each export says, from what its call says: of the reply that the result unpacks to.
use Prim.Native.Nat.{ℕ}
use mathlib.Core.Path.{◌≡◌, ap, ◌∙◌}
use mathlib.Core.List.{List}
use Rattle.lts.specs.declared.Entry.{Entry}
use Rattle.lts.specs.System.{Rel, Lts}
use Rattle.lts.specs.Rule.{Reply}
use Rattle.normal_form.specs.Normalise.{normalise_call, NormalisePromise}
use Rattle.conversion.specs.Conversion.{to_named_call, to_plain_call, ToNamedPromise, ToPlainPromise}
use Rattle.simulation.specs.Calls.{simulation_call, SimulationPromise}
use Rattle.simulation.proofs.Starts.{StartMeans}
use Rattle.game.specs.Play.{play_call, PlayPromise}
use Rattle.disjoint_union.specs.Join.{join_call, JoinPromise}
use Rattle.strategy.specs.Check.{check_call, CheckPromise}
use Rattle.strategy.specs.Write.{write_call, WritePromise}
use Rattle.strategy_bytes.specs.Bytes.{entry_bytes, entries_of_bytes}
use Rattle.coarsest_bytes.specs.Call.{coarsest_on_bytes, CoarsestBytesPromise}
use Rattle.release.specs.Packed.{packed, unpacked, coarsest_places, check_places, one_place, no_place}
use Rattle.release.specs.Starts.{start_on_bytes, StartBytesPromise}
use Rattle.release.proofs.Replies.{Kept, carried, exact, left, exported}
use Rattle.release.proofs.Starts.{start-bytes-promised}

pub play-exported : {s start words : List ℕ} {p q rounds : ℕ} {reply : Reply} {x : ℕ} → words ≡ start → play_call s words p q rounds ≡ reply
    → PlayPromise s words p q rounds reply → x ≡ packed one_place reply → Kept one_place reply
    → (play_call s start p q rounds ≡ unpacked one_place x)
    × ((x ≡ packed one_place (unpacked one_place x)) × PlayPromise s start p q rounds (unpacked one_place x))
play-exported {s} {start} {words} {p} {q} {rounds} w e h k l = rw (← w) (exported one_place (PlayPromise s words p q rounds) e h k l)

pub simulation-exported : {s start claim words others : List ℕ} {reply : Reply} {x : ℕ} → words ≡ start → others ≡ claim
    → simulation_call s words others ≡ reply → SimulationPromise s words others reply → x ≡ packed one_place reply → Kept one_place reply
    → (simulation_call s start claim ≡ unpacked one_place x)
    × ((x ≡ packed one_place (unpacked one_place x)) × SimulationPromise s start claim (unpacked one_place x))
simulation-exported {s} {start} {claim} {words} {others} w v e h k l = rw (← w, ← v) (exported one_place (SimulationPromise s words others) e h k l)

pub join-exported : {first second out₀ out : List ℕ} {reply : Reply} {x : ℕ} → join_call first second out₀ ≡ record { reply = reply; out = out }
    → JoinPromise first second out₀ reply out → x ≡ packed one_place reply → Kept one_place reply
    → (join_call first second out₀ ≡ record { reply = unpacked one_place x; out = out })
    × ((x ≡ packed one_place (unpacked one_place x)) × JoinPromise first second out₀ (unpacked one_place x) out)
join-exported {first} {second} {out₀} {out} = left one_place (λ (y : Reply). record { reply = y; out = out }) (λ (y : Reply). JoinPromise first second out₀ y out)

pub normalise-exported : {s out₀ out : List ℕ} {reply : Reply} {x : ℕ} → normalise_call s out₀ ≡ record { reply = reply; out = out }
    → NormalisePromise s out₀ reply out → x ≡ packed no_place reply → Kept no_place reply
    → (normalise_call s out₀ ≡ record { reply = unpacked no_place x; out = out })
    × ((x ≡ packed no_place (unpacked no_place x)) × NormalisePromise s out₀ (unpacked no_place x) out)
normalise-exported {s} {out₀} {out} = left no_place (λ (y : Reply). record { reply = y; out = out }) (λ (y : Reply). NormalisePromise s out₀ y out)

pub to-named-exported : {s out₀ out : List ℕ} {reply : Reply} {x : ℕ} → to_named_call s out₀ ≡ record { reply = reply; out = out }
    → ToNamedPromise s out₀ reply out → x ≡ packed no_place reply → Kept no_place reply
    → (to_named_call s out₀ ≡ record { reply = unpacked no_place x; out = out })
    × ((x ≡ packed no_place (unpacked no_place x)) × ToNamedPromise s out₀ (unpacked no_place x) out)
to-named-exported {s} {out₀} {out} = left no_place (λ (y : Reply). record { reply = y; out = out }) (λ (y : Reply). ToNamedPromise s out₀ y out)

pub to-plain-exported : {s out₀ out : List ℕ} {reply : Reply} {x : ℕ} → to_plain_call s out₀ ≡ record { reply = reply; out = out }
    → ToPlainPromise s out₀ reply out → x ≡ packed no_place reply → Kept no_place reply
    → (to_plain_call s out₀ ≡ record { reply = unpacked no_place x; out = out })
    × ((x ≡ packed no_place (unpacked no_place x)) × ToPlainPromise s out₀ (unpacked no_place x) out)
to-plain-exported {s} {out₀} {out} = left no_place (λ (y : Reply). record { reply = y; out = out }) (λ (y : Reply). ToPlainPromise s out₀ y out)

pub start-exported : {start : Lts → Rel} {Meant : List ℕ → List ℕ → Type 0} → StartMeans start Meant → {s grid₀ grid : List ℕ} {reply : Reply} {x : ℕ}
    → start_on_bytes start s grid₀ ≡ record { reply = reply; grid = grid } → x ≡ packed no_place reply → Kept no_place reply
    → (start_on_bytes start s grid₀ ≡ record { reply = unpacked no_place x; grid = grid })
    × ((x ≡ packed no_place (unpacked no_place x)) × StartBytesPromise Meant s grid₀ (unpacked no_place x) grid)
start-exported means {s} {grid₀} {grid} e k l =
    let f = e ∙ ap (λ (y : Reply). record { reply = y; grid = grid }) (carried no_place k l) in
    (f, (exact no_place k l, start-bytes-promised means s grid₀ _ grid f))

pub coarsest-exported : {s start schedule grid₀ representatives₀ grid representatives : List ℕ} {reply : Reply} {x : ℕ}
    → coarsest_on_bytes s start schedule grid₀ representatives₀ ≡ record { reply = reply; grid = grid; representatives = representatives }
    → CoarsestBytesPromise s start schedule grid₀ representatives₀ reply grid representatives → x ≡ packed coarsest_places reply → Kept coarsest_places reply
    → (coarsest_on_bytes s start schedule grid₀ representatives₀ ≡ record { reply = unpacked coarsest_places x; grid = grid; representatives = representatives })
    × ((x ≡ packed coarsest_places (unpacked coarsest_places x))
    × CoarsestBytesPromise s start schedule grid₀ representatives₀ (unpacked coarsest_places x) grid representatives)
coarsest-exported {s} {start} {schedule} {grid₀} {representatives₀} {grid} {representatives} =
    left coarsest_places (λ (y : Reply). record { reply = y; grid = grid; representatives = representatives })
    (λ (y : Reply). CoarsestBytesPromise s start schedule grid₀ representatives₀ y grid representatives)

pub check-exported : {s start words : List ℕ} {entries : List Entry} {reply : Reply} {x : ℕ} → words ≡ start → check_call s words entries ≡ reply
    → CheckPromise s words entries reply → x ≡ packed check_places reply → Kept check_places reply
    → (check_call s start entries ≡ unpacked check_places x)
    × ((x ≡ packed check_places (unpacked check_places x)) × CheckPromise s start entries (unpacked check_places x))
check-exported {s} {start} {words} {entries} w e h k l = rw (← w) (exported check_places (CheckPromise s words entries) e h k l)

pub write-exported : {s start words plan₀ plan : List ℕ} {p q : ℕ} {reply : Reply} {x : ℕ} → words ≡ start
    → write_call entry_bytes 8 s words p q plan₀ ≡ record { reply = reply; plan = plan }
    → WritePromise entries_of_bytes 8 s words p q plan₀ reply plan → x ≡ packed one_place reply → Kept one_place reply
    → (write_call entry_bytes 8 s start p q plan₀ ≡ record { reply = unpacked one_place x; plan = plan })
    × ((x ≡ packed one_place (unpacked one_place x)) × WritePromise entries_of_bytes 8 s start p q plan₀ (unpacked one_place x) plan)
write-exported {s} {start} {words} {plan₀} {plan} {p} {q} w e h k l =
    rw (← w) (left one_place (λ (y : Reply). record { reply = y; plan = plan })
    (λ (y : Reply). WritePromise entries_of_bytes 8 s words p q plan₀ y plan) e h k l)
