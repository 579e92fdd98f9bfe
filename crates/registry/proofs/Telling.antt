-- What is told of rows that keep what they kept: nothing. What is told where one row changes: what that row lost and gained.
use Prim.Native.Nat.{ℕ, zero, suc, ◌<◌}
use mathlib.Core.Path.{◌≡◌, refl, ◌∙◌, ap}
use mathlib.Core.Bool.{Bool, true, false, cond, ◌&&◌}
use mathlib.Core.List.{List, [], ◌∷◌, ◌++◌, map, append-nil}
use native.Mathlib.Nat.{not-suc-le-zero, le_of_suc-le-suc}
use lib.ListN.{length, get_or, set}
use Rattle.rules.specs.Picture.{Pair, is_ok, Row, Status, WAITING, SETTING, LISTED, SILENT, IGNORED, Picture, with_rows, with_status, kept_by, pairs_of, pairs_in, is_silent, is_silent_status}
use Rattle.rules.specs.Order.{Order, NEW, INVALID}
use Rattle.rules.specs.Step.{rows_separately, asked}
use Rattle.rules.specs.Ending.{missing, packed, tell, lost, gained, tell_rows, told_by, told}
use Rattle.rules.proofs.Pairs.{missing_self}
use Rattle.ring_tell.specs.Told.{row_told, rows_told}

lost_same : (b a : Row) → pairs_in b ≡ pairs_in a → lost b a ≡ []
unfolding lost
lost_same b a e = ap (λ (l : List Pair). missing l (pairs_in a)) e ∙ missing_self (pairs_in a)

gained_same : (b a : Row) → pairs_in b ≡ pairs_in a → gained b a ≡ []
unfolding gained
gained_same b a e = ap (missing (pairs_in a)) e ∙ missing_self (pairs_in a)

tell_none : (order : List Pair → Order) (size : ℕ) {ps : List Pair} → ps ≡ [] → tell order size ps ≡ []
unfolding tell packed
tell_none order size e = ap (tell order size) e

-- a kind of order, and the pairs that it lists of a row: nothing of a row that keeps what it kept
module _ (order : List Pair → Order) (pairs : Row → Row → List Pair) (size : ℕ) (none : (b a : Row) → pairs_in b ≡ pairs_in a → pairs b a ≡ []) where
  told_same : (rs : List Row) → tell_rows order pairs size rs rs ≡ []
  unfolding tell_rows
  told_same [] = refl
  told_same (r ∷ rs) = (λ i. tell_none order size (none r r refl) i ++ told_same rs i)

  told_map : (f : Row → Row) → ((r : Row) → pairs_in r ≡ pairs_in (f r)) → (rs : List Row) → tell_rows order pairs size rs (map f rs) ≡ []
  unfolding tell_rows
  told_map f h [] = refl
  told_map f h (r ∷ rs) = (λ i. tell_none order size (none r (f r) (h r)) i ++ told_map f h rs i)

  -- one row changes
  told_seat : (i : ℕ) (d e : Row) (rs : List Row) → i < length rs → tell_rows order pairs size rs (set rs i e) ≡ tell order size (pairs (get_or rs i d) e)
  unfolding tell_rows
  told_seat i d e [] h = absurd (not-suc-le-zero h)
  told_seat zero d e (r ∷ rs) h = ap (λ (l : List Order). tell order size (pairs r e) ++ l) (told_same rs) ∙ append-nil (tell order size (pairs r e))
  told_seat (suc i) d e (r ∷ rs) h = (λ k. tell_none order size (none r r refl) k ++ told_seat i d e rs (le_of_suc-le-suc h) k)

asked_keeps : (r : Row) → pairs_in r ≡ pairs_in (asked r)
unfolding asked pairs_in is_silent is_silent_status with_status kept_by pairs_of
asked_keeps r = go r.status
  where
    go : (s : Status) → pairs_of (kept_by s) ≡ pairs_of (kept_by (cond (is_silent_status s) (with_status WAITING r) (with_status s r)).status)
    go WAITING = refl
    go (SETTING a ps i t) = refl
    go (LISTED a ps) = refl
    go SILENT = refl
    go (IGNORED a) = refl

both_ok : (b : Bool) (os : List Order) → cond (b && b) os [] ≡ cond b os []
both_ok true os = refl
both_ok false os = refl

none_ok : (b : Bool) {os : List Order} → os ≡ [] → cond b os [] ≡ []
none_ok true e = e
none_ok false e = refl

-- one row changes in a picture
pub told_put : (p : Picture) (i : ℕ) (d e : Row) → i < length p.rows → told rows_separately p (with_rows (set p.rows i e) p) ≡ row_told p.state p.size (get_or p.rows i d) e
unfolding told told_by with_rows row_told
told_put p i d e h =
    both_ok (is_ok p.state) _
    ∙ (λ k. cond (is_ok p.state) (told_seat INVALID lost p.size lost_same i d e p.rows h k ++ told_seat NEW gained p.size gained_same i d e p.rows h k) [])

-- SILENT rows are asked
pub told_asked : (p q : Picture) → q.rows ≡ map asked p.rows → told rows_separately p q ≡ []
unfolding told told_by
told_asked p q e =
    none_ok (is_ok p.state && is_ok q.state)
    (ap (λ (l : List Row). tell_rows INVALID lost q.size p.rows l ++ tell_rows NEW gained q.size p.rows l) e
    ∙ (λ k. told_map INVALID lost q.size lost_same asked asked_keeps p.rows k ++ told_map NEW gained q.size gained_same asked asked_keeps p.rows k))

-- all rows, where the state stays
pub told_rows : (p : Picture) (rs : List Row) → told rows_separately p (with_rows rs p) ≡ rows_told p.state p.size p.rows rs
unfolding told told_by with_rows rows_told
told_rows p rs = both_ok (is_ok p.state) _
