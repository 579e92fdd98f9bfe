-- What every taken event keeps holds along every list of records.
use mathlib.Core.Path.{◌≡◌}
use mathlib.Core.Bool.{true}
use mathlib.Core.List.{List, [], ◌∷◌, ◌++◌, map, append_assoc, append-nil}
use Rattle.rules.specs.Picture.{Picture}
use Rattle.rules.specs.Event.{Event}
use Rattle.rules.specs.Step.{Change, change, respond, takes}
use Rattle.rules.specs.Ending.{orders_of, picture_of}
use Rattle.rules.specs.Run.{Outcome, Record, offered, left, sent_by, sent_with, Sent, next, after, history}
use Rattle.rules.proofs.Ways.{Offered, was_refused, was_taken, offered_cases}
use Rattle.rules.proofs.Sound.{Formed}
use Rattle.rules.proofs.Decode.{formed}

-- P of a picture and of the orders given out so far is kept by every event that is taken
abbrev pub Keeps : (Picture → List Sent → Type 0) → Type 0
Keeps P =
    (p : Picture) (sent : List Sent) (e : Event) (c : Change) → P p sent → takes p.state e ≡ true → respond p e ≡ change c → Formed e
    → P (picture_of c) (sent ++ map (sent_with (picture_of c).pass) (orders_of p c))

module _ (P : Picture → List Sent → Type 0) (k : Keeps P) where
  -- one record
  pub along_next : (p : Picture) (sent : List Sent) (r : Record) → P p sent → P (next p r) (sent ++ sent_by (offered p r))
  unfolding left sent_by
  along_next p sent r h = go (offered_cases p r)
    where
      go : {o : Outcome} → Offered p r o → P (left p o) (sent ++ sent_by o)
      go was_refused = rw append-nil h
      go (was_taken {c} e d m t q) = k p sent e c h t q (formed r.bytes e d)

  -- a list of records
  pub along : (p : Picture) (sent : List Sent) (rs : List Record) → P p sent → P (after p rs) (sent ++ history p rs)
  unfolding after history
  along p sent [] h = rw append-nil h
  along p sent (r ∷ rs) h = rw (← append_assoc) (along (next p r) (sent ++ sent_by (offered p r)) rs (along_next p sent r h))
