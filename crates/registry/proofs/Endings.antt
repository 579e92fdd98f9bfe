-- The ending of an event, from what its rows leave open.
use Prim.Native.Nat.{ℕ, ◌+◌}
use mathlib.Core.Path.{◌≡◌, refl, sym, ◌∙◌, ap}
use mathlib.Core.Bool.{Bool, ◌||◌}
use mathlib.Core.List.{List}
use lib.ListN.{length}
use lib.Seq.{sets}
use Rattle.laws.specs.Lists.{any}
use Rattle.rules.specs.Picture.{State, Picture, with_state, with_delay, is_open, is_silent}
use Rattle.rules.specs.Order.{encode_all}
use Rattle.rules.specs.Ending.{becomes_ok, settled, ok_order, waits, wait_order, ended, end_orders}
use Rattle.ring_entries.specs.Tests.{is_short}
use Rattle.ring_ending.specs.declared.Closed.{Closed}
use Rattle.ring_ending.specs.Closing.{is_over, state_after, starts_delay, closing_orders, Closes}
use Rattle.registry.specs.declared.image.RegistryImage.{RegistryImage}
use Rattle.registry.specs.View.{view_of}
use Rattle.registry.specs.Outcome.{Ends}

module _ (q : Picture) {question silent short : Bool} (o : question ≡ any is_open q.rows) (s : silent ≡ any is_silent q.rows) (h : short ≡ any is_short q.rows) where
  pub end_orders_lem : end_orders q ≡ closing_orders q.state q.delay question silent short
  unfolding end_orders ok_order wait_order waits becomes_ok settled with_state is_short closing_orders is_over state_after starts_delay
  end_orders_lem = (λ i. closing_orders q.state q.delay (sym o i) (sym s i) (sym h i))

  pub end_picture : {st : State} {d : Bool} → st ≡ state_after q.state question → d ≡ q.delay || starts_delay q.state q.delay question silent
      → ◌≡◌ {A = Picture} (record { state = st; pass = q.pass; size = q.size; delay = d; rows = q.rows }) (ended q)
  unfolding ended with_delay waits becomes_ok settled with_state is_over state_after starts_delay
  end_picture e f =
      (λ i.
      record {
        state = (e ∙ ap (state_after q.state) o) i;
        pass = q.pass;
        size = q.size;
        delay = (f ∙ (λ j. q.delay || starts_delay q.state q.delay (o j) (s j))) i;
        rows = q.rows;
      })

  -- the ending written behind `at`
  pub ends : (r : RegistryImage) {c : Closed} {b d : List ℕ} {at : ℕ} → view_of r ≡ ended q → Closes q.state q.delay question silent short q.pass b at c d
      → Ends q b at (record { number = 0; length = c.end; picture = r }) d
  ends r {c} {b} {d} {at} e w =
      let l = ap (encode_all q.pass) (sym end_orders_lem) in
      record {
        picture = e;
        number = refl;
        buffer = w.wrote.buffer ∙ ap (sets b at) l;
        length = w.wrote.place ∙ ap (λ (m : List ℕ). at + length m) l;
      }
