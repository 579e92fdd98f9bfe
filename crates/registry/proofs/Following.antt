-- A run of calls has the rules' pictures, numbers and orders.
use Prim.Native.Nat.{ℕ, zero, suc, ◌<◌}
use mathlib.Core.Path.{◌≡◌, refl, ◌∙◌, ap}
use mathlib.Core.Bool.{Bool, true, false, cond}
use mathlib.Core.List.{List, [], ◌∷◌, map}
use native.Mathlib.Nat.{not-suc-le-zero, le_of_suc-le-suc}
use lib.ListN.{length, get_or, take}
use Rattle.rules.specs.Picture.{Picture, legal_size, fresh, fresh_number}
use Rattle.rules.specs.Run.{Record, offered, step, next, after}
use Rattle.rules.specs.Claims.{picture_at, record_at}
use Rattle.rules.proofs.Demand3.{demand3}
use Rattle.registry.specs.declared.image.RegistryImage.{RegistryImage}
use Rattle.std.specs.Prelude.{Result, Ok, Err}
use Rattle.numbers.specs.declared.Refusal.{Refusal}
use Rattle.numbers.specs.declared.Refusal.TheVariants as refusals
use Rattle.numbers.specs.Numbers.{number_in}
use Rattle.registry.specs.View.{view_of, make_answer}
use Rattle.registry.specs.Outcome.{Handed, handed, expected, Does, Marks}
use Rattle.registry.specs.Calls.{Call, Calls, then_call, image_at, record_of, Promises}

-- what one call leaves
does_picture : {i : RegistryImage} (c : Call) → Does i (step (view_of i) c.bytes (length c.before)) c.before c.result c.after
    → view_of c.result.picture ≡ next (view_of i) (record_of c)
unfolding handed expected record_of
does_picture c h = ap (λ (x : Handed). x.picture) h.outcome

pictures : (p : Picture) (i : RegistryImage) (cs : List Call) → view_of i ≡ p → Calls i cs → (k : ℕ) → view_of (image_at i cs k) ≡ after p (take k (map record_of cs))
unfolding image_at after
pictures p i cs e h zero = e
pictures p i [] e h (suc k) = e
pictures p i (c ∷ cs) e (then_call d h) (suc k) =
    pictures (next p (record_of c)) c.result.picture cs (does_picture c d ∙ ap (λ (q : Picture). next q (record_of c)) e) h k

-- what every call hands back
module _ (none : Record) where
  backs : (p : Picture) (i : RegistryImage) (cs : List Call) → view_of i ≡ p → Calls i cs → (k : ℕ) (c : Call) → k < length cs
      → handed (get_or cs k c).result (get_or cs k c).after
      ≡ expected (after p (take k (map record_of cs))) (get_or cs k c).before (offered (after p (take k (map record_of cs))) (get_or (map record_of cs) k none))
  unfolding after record_of
  backs p i [] e h k c l = absurd (not-suc-le-zero l)
  backs p i (b ∷ cs) e (then_call d h) zero c l = d.outcome ∙ ap (λ (q : Picture). expected q b.before (offered q (record_of b))) e
  backs p i (b ∷ cs) e (then_call d h) (suc k) c l =
      backs (next p (record_of b)) b.result.picture cs (does_picture b d ∙ ap (λ (q : Picture). next q (record_of b)) e) h k c (le_of_suc-le-suc l)

marks : (i : RegistryImage) (cs : List Call) → Calls i cs → Marks i → (k : ℕ) → Marks (image_at i cs k)
unfolding image_at
marks i cs h m zero = m
marks i [] h m (suc k) = m
marks i (c ∷ cs) (then_call d h) m (suc k) = marks c.result.picture cs h (d.marks m) k

made : (l : ℕ) → number_in (make_answer l) ≡ fresh_number l
unfolding make_answer fresh_number
made l = go (legal_size l)
  where
    go : (b : Bool) → number_in (cond {A = Result (Unit {0}) Refusal} b (Ok tt) (Err refusals.IllegalSize)) ≡ cond b 0 10
    go true = refl
    go false = refl

pub promises : Promises
unfolding picture_at record_at
promises =
    record {
      made = made;
      follows = λ l i cs e h. record {
        pictures = pictures (fresh l) i cs e h;
        backs = backs _ (fresh l) i cs e h;
        demand3 = demand3 l (map record_of cs);
        marks = marks i cs h;
      };
    }
