-- Which kinds are taken in which state, kind by kind.
use mathlib.Core.Path.{refl}
use Rattle.rules.specs.Event.{Event, START, NCE, SHUTDOWN, ANSWER, NONE, DELAY, header, encode_event}
use Rattle.rules.specs.Step.{takes}
use Rattle.rules.specs.Claims.{StatesByKinds}

pub states_by_kinds : (e : Event) → StatesByKinds e
unfolding takes encode_event header
states_by_kinds (START n) = record { off = refl; not_ok = refl; ok = refl }
states_by_kinds (NCE n) = record { off = refl; not_ok = refl; ok = refl }
states_by_kinds SHUTDOWN = record { off = refl; not_ok = refl; ok = refl }
states_by_kinds (ANSWER c x a ps) = record { off = refl; not_ok = refl; ok = refl }
states_by_kinds (NONE c x) = record { off = refl; not_ok = refl; ok = refl }
states_by_kinds (DELAY c) = record { off = refl; not_ok = refl; ok = refl }
