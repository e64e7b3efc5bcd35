-- The names of other crates that most proofs cite, passed on from one place. Declares nothing.
pub use Rattle.std.{specs.{Global.Vec, List.{AllPairs, position_from, sum}, Result.IsErrAnd}, proofs.Common.{Bool, Err, IfErr, IfOk, IfSome, IsErr, IsErrOf}}
pub use Rattle.std.proofs.Common.{IsSome, List, None, Ok, OnErr, OnOk, Option, Result, Some, [], ap, append_assoc, arith, bytes_eq, drop, eqb, false, get_or}
pub use Rattle.std.proofs.Common.{if◌then◌else◌, inl, inr, length, length-append, map, nat_le, refl, rules, slice_get, slice_set, subst, suc, sym, take, true}
pub use Rattle.std.proofs.{Common.{true≢false, zero, ℕ, ◌&&◌, ◌*◌, ◌++◌, ◌+◌, ◌-◌, ◌<◌, ◌||◌, ◌∙◌, ◌∷◌, ◌≡◌, ◌≢◌, ◌≤◌, ◌⊎◌}, lemmas.List.drop_all}
pub use Rattle.std.proofs.lemmas.{List.{length-map, length-set}, Option.{get_or_from_slice_get, slice_get-get_or, slice_get_read, slice_get_within}}
pub use Rattle.spl_agree.proofs.Tests.{and_left, bool_cases, eqb_is, if_holds}
pub use Rattle.spl_base.specs.{Booleans.{bytes_are, bytes_same}, FormLaws.both_true}
pub use Rattle.spl_circuit.specs.{Nodes.{CircuitId, NodeId, has_node, is_below, sorted}, Rules.{ascends, ascends_after}}
pub use Rattle.spl_circuit.specs.declared.definition.Definition.{Definition}
pub use Rattle.spl_edge.specs.{Devices.{DiskView, Image, Onward, PairView, Picked, bench, image_now, pair_view}, declared.{bench.Pair.Pair, fill.Fill.Fill}}
pub use Rattle.spl_circuit_world.specs.{Answers.{events_of, is_up, line_events, stops_of}, Calm.{Calming, calm, calming, calming_step, delivers, from_all}}
pub use Rattle.spl_circuit_world.specs.{Calm.{open_nodes, pair_turn, passes, ticks, to_all}, Projection.{Ran, by_rule, keeps_record, lines_fit}}
pub use Rattle.spl_circuit_world.specs.{Puts.{put_at-here, put_at-other}, Worlds.{Halts, IsOrigin, Occurrence, Origin, SentMessage, Starts, Steps, Stops}}
pub use Rattle.spl_circuit_world.specs.Worlds.{World as CircuitWorld, circuit_carried_out, first_world, halted, circuit_happens, messages, occur}
pub use Rattle.spl_circuit_world.specs.{Worlds.{posted_outgoing, step_plan, step_world}, Apart.moves-beside, Whole.whole_world}
pub use Rattle.spl_circuit_world.{specs.declared.TheConstants.MOST_EVENTS, proofs.{Pairs.on_pair-append, Counts.events-more}}
pub use Rattle.spl_node.specs.{Stands.StandFor, Stopping.{cells_stopped, event_changes, keeps}, declared.{host.Host.Host, stopping.Stopping.Stopping}}
pub use Rattle.spl_pump.specs.Wires.{Carried, only}
pub use Rattle.spl_registry.specs.Nodes.{Entry, entry_ids as registered, node_at}
pub use Rattle.spl_cell_rules.specs.{Cells.{Cell, Empty, is_open_cell}, Changes.{after_plan, changes_made, stopped_cell}, Plans.{plan_of, tells_only}}
pub use Rattle.spl_cell_rules.specs.Valid.{is_legal}
pub use Rattle.spl_sched.specs.{Grammar.{is_line, is_step, step_circuit, step_node}, declared.line.{Line.Line, Step.Step}}
pub use Rattle.spl_snapshot.specs.Counting.{HasRisen, IfBoth, PairOnward, chosen}
pub use Rattle.spl_wire.specs.declared.{answer.Answer.Answer, change.Change.Change, event.Event.Event, message.Message.Message, plan.Outgoing.Outgoing}
pub use Rattle.spl_wire.specs.declared.plan.Plan.{Plan}
