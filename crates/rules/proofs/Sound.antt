-- Sound pictures: few rows, no shared address, no shared pair, no more pairs a row than an answer has. Every change of a sound picture is sound.
use Prim.Native.Nat.{ℕ, suc, ◌-◌, ◌≤◌}
use mathlib.Core.Path.{◌≡◌, refl, sym, subst}
use mathlib.Core.Bool.{Bool, true, false, cond}
use mathlib.Core.List.{List, []}
use mathlib.Core.Logic.{◌⊎◌, inl, inr}
use native.Mathlib.Omega.{arith}
use lib.Dec.{eqb}
use lib.ListN.{length, replicate, length-replicate}
use Rattle.laws.specs.Lists.{any, collect}
use Rattle.laws.specs.Bools.{on_cond}
use Rattle.laws.specs.Alls.{All, all_nil, all_map, all_each, all_replicate, all_out, all_in, all_both, all_turn, all_collect, any_none}
use Rattle.laws.specs.Alls.{Pairwise, pairwise_nil, pairwise_each, pairwise_replicate, pairwise_out, pairwise_in, Each, each_map, each_seat, each_same, each_length}
use Rattle.rules.specs.House.{min_size, max_nodes, max_pairs, max_pass}
use Rattle.rules.specs.Picture.{Pair, WAITING, Row, Picture, with_status, with_rows}
use Rattle.rules.specs.Picture.{Kept, nothing, kept, kept_by, kept_in, pairs_of, pairs_in, has_address, keeps, is_silent, is_ignored, new_row, Seat, seat_at, others, put}
use Rattle.rules.specs.Event.{Event, START, NCE, SHUTDOWN, ANSWER, NONE, DELAY}
use Rattle.rules.specs.Renumber.{judge, goods, Renumbering, finished, renumbers}
use Rattle.rules.specs.Step.{Change, scanned, scan, begin, rescanned, rescan, shut_down, change_rows, silenced, asked, delay_ends, ignored, counted, on_counted, emptied, status_after, judged_for, renumbering_for, listed_row, keep_answer}
use Rattle.rules.proofs.Ways.{Ways, Seated}
use Rattle.rules.proofs.Pairs.{eqb_turn, Differ, differ_turn, New, goods_new, goods_differ, goods_few}

-- no pair of the first list is in the second
abbrev pub Disjoint : List Pair → List Pair → Type 0
Disjoint ps qs = All (λ (a : Pair). All (Differ a) qs) ps

-- what two rows keep shares neither address nor pair
abbrev pub Apart : Kept → Kept → Type 0
Apart nothing l = Unit {0}
Apart (kept a ps) nothing = Unit {0}
Apart (kept a ps) (kept b qs) = (eqb a b ≡ false) × Disjoint ps qs

abbrev pub Proper : Kept → Type 0
Proper nothing = Unit {0}
Proper (kept a ps) = Pairwise Differ ps × (length ps ≤ max_pairs)

abbrev pub RowsApart : Row → Row → Type 0
RowsApart r s = Apart (kept_in r) (kept_in s)

abbrev pub RowProper : Row → Type 0
RowProper r = Proper (kept_in r)

pub record SoundRows (rows : List Row) : Type 0 where
  pub few : suc (length rows) ≤ max_nodes
  pub apart : Pairwise RowsApart rows
  pub proper : All RowProper rows

disjoint_turn : (ps qs : List Pair) → Disjoint ps qs → Disjoint qs ps
disjoint_turn ps qs h = all_map (λ (b : Pair) (k : All (λ (a : Pair). Differ a b) ps). all_map (λ (a : Pair) (m : Differ a b). differ_turn a b m) k) (all_turn ps qs h)

apart_turn : (k l : Kept) → Apart k l → Apart l k
apart_turn nothing nothing h = tt
apart_turn nothing (kept b qs) h = tt
apart_turn (kept a ps) nothing h = tt
apart_turn (kept a ps) (kept b qs) h = (eqb_turn a b h.0, disjoint_turn ps qs h.1)

pub rows_apart_turn : (r s : Row) → RowsApart r s → RowsApart s r
rows_apart_turn r s h = apart_turn (kept_in r) (kept_in s) h

-- a row that keeps what it kept, or nothing
abbrev pub Sheds : Row → Row → Type 0
Sheds r s = (kept_in s ≡ kept_in r) ⊎ (kept_in s ≡ nothing)

apart_nothing : (k : Kept) → Apart k nothing
apart_nothing nothing = tt
apart_nothing (kept a ps) = tt

sheds_apart : (r r' s s' : Row) → RowsApart r s → Sheds r r' → Sheds s s' → RowsApart r' s'
sheds_apart r r' s s' h (inl e) (inl f) = rw (e, f) h
sheds_apart r r' s s' h (inl e) (inr f) = rw f (apart_nothing (kept_in r'))
sheds_apart r r' s s' h (inr e) f = rw e tt

sheds_proper : (r r' : Row) → RowProper r → Sheds r r' → RowProper r'
sheds_proper r r' h (inl e) = rw e h
sheds_proper r r' h (inr e) = rw e tt

-- rows that shed are sound again
pub sound_each : (rows rows' : List Row) → SoundRows rows → Each Sheds rows rows' → SoundRows rows'
sound_each rows rows' h k =
    record {
      few = subst (λ (n : ℕ). suc n ≤ max_nodes) (each_length k) h.few;
      apart = pairwise_each sheds_apart h.apart k;
      proper = all_each sheds_proper h.proper k;
    }

-- what a change does to one row
sheds_same : (r : Row) → Sheds r r
sheds_same r = inl refl

sheds_silenced : (r : Row) → Sheds r (silenced r)
unfolding silenced kept_by
sheds_silenced r = inr refl

sheds_ignored : (a : ℕ) (r : Row) → Sheds r (ignored a r)
unfolding ignored with_status kept_by
sheds_ignored a r = inr refl

sheds_counted : (r : Row) → Sheds r (counted r)
unfolding counted
sheds_counted r = inl refl

sheds_emptied : (r : Row) → Sheds r (emptied r)
unfolding emptied with_status kept_by
sheds_emptied r = on_cond (Sheds r) (is_ignored r) r (with_status WAITING r) (λ h. inl refl) (λ h. inr refl)

sheds_asked : (r : Row) → Sheds r (asked r)
unfolding asked with_status kept_by
sheds_asked r = on_cond (Sheds r) (is_silent r) (with_status WAITING r) r (λ h. inr refl) (λ h. inl refl)

sheds_out : (a : ℕ) (r : Row) → Sheds r (ignored a (counted r))
unfolding ignored with_status kept_by
sheds_out a r = inr refl

-- the rows of a seat with another row in it, and with each counted row changed
pub each_put : (R : Row → Row → Type 0) → ((r : Row) → R r r) → (s : Seat) (r : Row) → R s.row r → Each R (put s s.row) (put s r)
unfolding put
each_put R same s r h = each_seat (each_same R same s.front) h (each_same R same s.back)

pub each_counted : (R : Row → Row → Type 0) → ((r : Row) → R r r) → (counts : Row → Bool) (f : Row → Row)
    → ((r : Row) → counts r ≡ true → R r (f r)) → (s : Seat) → R s.row (f s.row)
    → Each R (put s s.row) (on_counted counts f s)
unfolding put on_counted
each_counted R same counts f h s k = each_seat (each_map R _ turn s.front) k (each_map R _ turn s.back)
  where
    turn : (r : Row) → R r (cond (counts r) (f r) r)
    turn r = on_cond (R r) (counts r) (f r) r (λ e. h r e) (λ e. same r)

-- whatever is changed, the rows are as many as before
pub length_put : (s : Seat) (r : Row) → length (put s s.row) ≡ length (put s r)
length_put s r = each_length (each_put (λ (t u : Row). Unit {0}) (λ t. tt) s r tt)

pub length_counted : (counts : Row → Bool) (f : Row → Row) (s : Seat) → length (put s s.row) ≡ length (on_counted counts f s)
length_counted counts f s = each_length (each_counted (λ (t u : Row). Unit {0}) (λ t. tt) counts f (λ t e. tt) s tt)

-- sound rows, a pass of four bytes, and an L that is not too small
pub record Sound (p : Picture) : Type 0 where
  pub rows : SoundRows p.rows
  pub pass : p.pass ≤ max_pass
  pub size : min_size ≤ p.size

-- what decoding grants
abbrev pub Formed : Event → Type 0
Formed (START n) = (1 ≤ n) × (n ≤ max_nodes)
Formed (NCE n) = (1 ≤ n) × (n ≤ max_nodes)
Formed SHUTDOWN = Unit {0}
Formed (ANSWER c x a ps) = length ps ≤ max_pairs
Formed (NONE c x) = Unit {0}
Formed (DELAY c) = Unit {0}

-- what the row keeps after an answer is taken
pub kept_after : (a : ℕ) (ps : List Pair) (n : Renumbering) → kept_by (status_after a ps n) ≡ kept a ps
unfolding kept_by status_after
kept_after a ps finished = refl
kept_after a ps (renumbers i t b n) = refl

apart_from : (a : ℕ) (gs : List Pair) (k : Kept) → has_address a k ≡ false → Disjoint gs (pairs_of k) → Apart (kept a gs) k
unfolding has_address pairs_of
apart_from a gs nothing h d = tt
apart_from a gs (kept b qs) h d = (h, d)

pub no_rows : SoundRows []
no_rows = record { few = omega arith; apart = pairwise_nil; proper = all_nil }

new_rows_lem : (n : ℕ) → 1 ≤ n → n ≤ max_nodes → SoundRows (replicate (n - 1) new_row)
unfolding new_row kept_by
new_rows_lem n l m = record { few = rw length-replicate (omega arith); apart = pairwise_replicate (n - 1) new_row tt; proper = all_replicate (n - 1) new_row tt }

module _ (p : Picture) (h : Sound p) where
  module _ (c x : ℕ) (s : Seated p c x) where
    pub split_rows : SoundRows (put (seat_at p.rows x) (seat_at p.rows x).row)
    split_rows = subst SoundRows s.split h.rows

    sound_put : (r : Row) → Sheds (seat_at p.rows x).row r → SoundRows (put (seat_at p.rows x) r)
    sound_put r k = sound_each _ _ split_rows (each_put Sheds sheds_same (seat_at p.rows x) r k)

    sound_counted : (counts : Row → Bool) (f : Row → Row) → ((r : Row) → Sheds r (f r)) → SoundRows (on_counted counts f (seat_at p.rows x))
    sound_counted counts f k = sound_each _ _ split_rows (each_counted Sheds sheds_same counts f (λ r e. k r) (seat_at p.rows x) (k (seat_at p.rows x).row))

    -- the row that keeps an answer is apart from all others
    sound_keep : (a : ℕ) (ps : List Pair) → length ps ≤ max_pairs → any (keeps a) (others (seat_at p.rows x)) ≡ false
        → SoundRows (put (seat_at p.rows x) (listed_row (seat_at p.rows x) a ps))
    unfolding put others listed_row judged_for keeps pairs_in
    sound_keep a ps l k =
        let s = seat_at p.rows x in
        let elsewhere = collect pairs_in (others s) in
        let gs = goods (judge elsewhere [] ps) in
        let e : kept_in (listed_row s a ps) ≡ kept a gs = kept_after a gs (renumbering_for s ps) in
        let fresh : All (λ (r : Row). Disjoint gs (pairs_in r)) (others s) =
        all_turn gs (others s) (all_map (λ (g : Pair) (n : New elsewhere [] g). all_collect pairs_in (others s) n.there) (goods_new elsewhere [] ps)) in
        let apart : All (RowsApart (listed_row s a ps)) (others s) =
        all_map (λ (r : Row) (m : (keeps a r ≡ false) × Disjoint gs (pairs_in r)). subst (λ (z : Kept). Apart z (kept_in r)) (sym e) (apart_from a gs (kept_in r) m.0 m.1))
        (all_both (any_none (keeps a) (others s) k) fresh) in
        record {
          few = subst (λ (n : ℕ). suc n ≤ max_nodes) (length_put s (listed_row s a ps)) split_rows.few;
          apart = pairwise_in rows_apart_turn s.front (listed_row s a ps) s.back apart (pairwise_out s.front s.row s.back split_rows.apart);
          proper = all_in s.front (listed_row s a ps) s.back
              (subst Proper (sym e) (goods_differ elsewhere [] ps, omega (arith, goods_few elsewhere [] ps)))
              (all_out s.front s.row s.back split_rows.proper);
        }

  pub sound_ways : Ways p (λ (e : Event) (c : Change). Formed e → Sound c.picture)
  unfolding begin scan scanned rescan rescanned shut_down change_rows with_rows delay_ends keep_answer
  sound_ways =
      record {
        starts = λ n l f. record { rows = new_rows_lem n f.0 f.1; pass = l; size = h.size };
        ring_changes = λ n l i f. record { rows = new_rows_lem n f.0 f.1; pass = l; size = h.size };
        ring_changes_in_ok = λ n l i f. record { rows = new_rows_lem n f.0 f.1; pass = l; size = h.size };
        shuts = λ f. record { rows = no_rows; pass = h.pass; size = h.size };
        silences = λ c x s o f. record { rows = sound_put c x s _ (sheds_silenced _); pass = h.pass; size = h.size };
        delays = λ c d f. record { rows = sound_each _ _ h.rows (each_map Sheds asked sheds_asked p.rows); pass = h.pass; size = h.size };
        bars = λ c x a ps s o z f. record { rows = sound_put c x s _ (sheds_ignored a _); pass = h.pass; size = h.size };
        ignores = λ c x a ps s o counts k z f. record { rows = sound_counted c x s counts _ (sheds_out a); pass = h.pass; size = h.size };
        restarts = λ c x a ps s o counts b l f. record { rows = sound_each _ _ (sound_counted c x s counts counted sheds_counted) (each_map Sheds emptied sheds_emptied _); pass = l; size = h.size };
        keeps = λ c x a ps s o k f. record { rows = sound_keep c x s a ps f k.unkept; pass = h.pass; size = h.size };
      }
