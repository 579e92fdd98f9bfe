-- What the code's events stand for.
use Rattle.std.specs.Prelude.{Option, Some, None}
use Rattle.std.proofs.Math.Option as math
use Rattle.rules.specs.Event as rules
use Rattle.wire_pairs.specs.View.{pairs_of}
use Rattle.wire_events.specs.declared.Event.{Event}
use Rattle.wire_events.specs.declared.Event.TheVariants as events

abbrev pub event_of : Event → rules.Event
event_of (events.Start n) = rules.START n
event_of (events.NetworkChange n) = rules.NCE n
event_of events.Shutdown = rules.SHUTDOWN
event_of (events.Answer pass x a ps) = rules.ANSWER pass x.0 a.0 (pairs_of ps)
event_of (events.NoAnswer pass x) = rules.NONE pass x.0
event_of (events.DelayExpired pass) = rules.DELAY pass

-- an event, or none where the bytes are malformed
abbrev pub event_in : Option Event → math.Option rules.Event
event_in (Some e) = math.some (event_of e)
event_in None = math.none
