-- The cases of telegrams at full size as a table: messages of 65,535 bytes, and joining into a whole buffer. They stand apart from the
-- rules since computing them takes about as long as all proofs of the rules.
use Rattle.std.specs.Prelude.{List, [], ◌∷◌, replicate}
use Rattle.rules.specs.Telegram.{uncounted, count_is, uncut, cut_to, idle, opened, unjoined, still_open, complete}
use Rattle.rules.specs.Table.{hex, to_count, to_cut, to_join, count, telegram, joined, Edge, edge}

unfoldable pub full_size : List Edge
unfolding hex
full_size =
    -- 65,535 at L = 12: 5,958 telegrams, last TelLen 9
    edge (to_count 12 65_535) (count (count_is 5_958))
    ∷ edge (to_cut 12 0x0102000C (replicate 65_535 0xAB) 5_958 15) (telegram (cut_to (hex 15 0x0102000C_3009_45_ABABABABABABABAB)))
    -- 65,536 bytes are refused 11, after 10 and before 12 and 13
    ∷ edge (to_count 12 65_536) (count (uncounted 11))
    ∷ edge (to_cut 12 0x0102000C (replicate 65_536 0xAB) 0 0) (telegram (uncut 11))
    ∷ edge (to_cut 46 0x0102000C (replicate 65_536 0xAB) 1 18) (telegram (uncut 10))
    -- joining: 10, 13, 14 and 15 leave an open message as it is
    ∷ edge
    (to_join 11 (opened 0x0102000C 3 5) 65534 (hex 8 0x0102000C200203AA ∷ []))
    (joined (unjoined 10 ∷ []) (opened 0x0102000C 3 5) (hex 8 0x0000000000000000))
    ∷ edge
    (to_join 46 (opened 0x0102000C 3 5) 65535 (hex 8 0x0102000C200203AA ∷ []))
    (joined (unjoined 10 ∷ []) (opened 0x0102000C 3 5) (hex 8 0x0000000000000000))
    ∷ edge
    (to_join 12 (opened 0x0102000C 3 5) 65534 (hex 0 0x0 ∷ []))
    (joined (unjoined 13 ∷ []) (opened 0x0102000C 3 5) (hex 8 0x0000000000000000))
    ∷ edge
    (to_join 12 (opened 0x0102000C 3 5) 65535 (hex 0 0x0
    ∷ hex 5 0x0102000C00
    ∷ hex 7 0x0102000C400200
    ∷ hex 8 0x0102000C00010000
    ∷ hex 7 0x0102000C000200
    ∷ hex 19 0x0102000C000D00000000000000000000000000
    ∷ hex 19 0x0102000C500D00000000000000000000000000
    ∷ hex 6 0x0102000C1000
    ∷ hex 6 0x0102000C2000
    ∷ hex 6 0x0102000C3000
    ∷ hex 6 0x0102000C4000
    ∷ hex 8 0x0102000C40020005
    ∷ hex 7 0x0102000CF00103
    ∷ hex 9 0x0102000C200303AABB
    ∷ hex 8 0x0102000C300204CC ∷ []))
    (joined (unjoined 14 ∷ unjoined 14 ∷ unjoined 14 ∷ unjoined 14 ∷ unjoined 14 ∷ unjoined 14 ∷ unjoined 14 ∷ unjoined 14 ∷ unjoined 14 ∷ unjoined 14 ∷ unjoined 15 ∷ unjoined 15 ∷ unjoined 15 ∷ still_open ∷ complete 0x0102000C 8 ∷ []) idle (hex 8 0x0000000000AABBCC))
    -- 16 ends the open message and leaves the buffer: another counter, another MsgID, none open, a first telegram with a counter
    ∷ edge
    (to_join 12 (opened 0x0102000C 3 5) 65535 (hex 8 0x0102000C200204AA
    ∷ hex 8 0x0102000C200203AA ∷ []))
    (joined (unjoined 16 ∷ unjoined 16 ∷ []) idle (hex 8 0x0000000000000000))
    ∷ edge
    (to_join 12 (opened 0x0102000C 3 5) 65535 (hex 8 0x0102000D300203AA
    ∷ hex 8 0x0102000C300203AA ∷ []))
    (joined (unjoined 16 ∷ unjoined 16 ∷ []) idle (hex 8 0x0000000000000000))
    ∷ edge
    (to_join 12 idle 65535 (hex 8 0x0102000C200200AA
    ∷ hex 8 0x0102000C300200AA ∷ []))
    (joined (unjoined 16 ∷ unjoined 16 ∷ []) idle (hex 8 0x0000000000000000))
    ∷ edge
    (to_join 12 (opened 0x0102000C 3 5) 65535 (hex 8 0x0102000C100201AA
    ∷ hex 8 0x0102000C200203AA ∷ []))
    (joined (unjoined 16 ∷ unjoined 16 ∷ []) idle (hex 8 0x0000000000000000))
    -- TelID 0 completes and TelID 1 begins, and either drops an open message; a telegram of a counter alone is taken
    ∷ edge
    (to_join 12 (opened 0x0102000C 3 5) 65535 (hex 8 0x0102000D0002AABB
    ∷ hex 8 0x0102000C200203AA ∷ []))
    (joined (complete 0x0102000D 2 ∷ unjoined 16 ∷ []) idle (hex 8 0xAABB000000000000))
    ∷ edge
    (to_join 12 (opened 0x0102000C 3 5) 65535 (hex 9 0x0102000D100300AABB
    ∷ hex 7 0x0102000D200101
    ∷ hex 8 0x0102000D300202CC ∷ []))
    (joined (still_open ∷ still_open ∷ complete 0x0102000D 3 ∷ []) idle (hex 8 0xAABBCC0000000000))
    -- a total of 65,535 completes, one of 65,536 is refused 16
    ∷ edge
    (to_join 12 (opened 0x0102000C 7 65533) 65535 (hex 9 0x0102000C300307AABB ∷ []))
    (joined (complete 0x0102000C 65535 ∷ []) idle (hex 8 0x0000000000000000))
    ∷ edge
    (to_join 12 (opened 0x0102000C 7 65533) 65535 (hex 10 0x0102000C300407AABBCC ∷ []))
    (joined (unjoined 16 ∷ []) idle (hex 8 0x0000000000000000))
    ∷ []
