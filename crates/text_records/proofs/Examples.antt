-- Records and orders worked out, as the page gives them.
use mathlib.Core.Path.{◌≡◌, refl}
use mathlib.Core.List.{[], ◌∷◌}
use Rattle.text_words.specs.Text.{glyph_of}
use Rattle.text_out.specs.Texts.{codes}
use Rattle.text_out.specs.Spelling.{hex_of}
use Rattle.text_records.specs.Fields.{spaced_from, spaced_of}
use Rattle.text_records.specs.declared.Layout.TheVariants.{Event, Order}

-- an ANSWER
an_answer : spaced_of Event (0x4D ∷ 0x45 ∷ 0x04 ∷ 0x00 ∷ 0x00 ∷ 0x00 ∷ 0x01 ∷ 0x01 ∷ 0x01 ∷ 0x01 ∷ 0x02 ∷ 0x22 ∷ 0x01 ∷ 0x31 ∷ 0x01 ∷ [])
    ≡ codes "4D45 04 00000001 01 0101 02 2201 3101"
unfolding spaced_of spaced_from hex_of glyph_of
an_answer = refl

-- a START, and one with two bytes too many
a_start : spaced_of Event (0x4D ∷ 0x45 ∷ 0x01 ∷ 0x00 ∷ 0x00 ∷ 0x00 ∷ 0x00 ∷ 0x03 ∷ [])
    ≡ codes "4D45 01 00000000 03"
unfolding spaced_of spaced_from hex_of glyph_of
a_start = refl

a_long_start : spaced_of Event (0x4D ∷ 0x45 ∷ 0x01 ∷ 0x00 ∷ 0x00 ∷ 0x00 ∷ 0x00 ∷ 0x03 ∷ 0x04 ∷ 0x05 ∷ [])
    ≡ codes "4D45 01 00000000 03 0405"
unfolding spaced_of spaced_from hex_of glyph_of
a_long_start = refl

-- SET, INVALID and OK
a_set : spaced_of Order (0x4D ∷ 0x4F ∷ 0x02 ∷ 0x00 ∷ 0x00 ∷ 0x00 ∷ 0x01 ∷ 0x02 ∷ 0x01 ∷ 0x02 ∷ 0x22 ∷ 0x01 ∷ 0x02 ∷ [])
    ≡ codes "4D4F 02 00000001 02 0102 22 01 02"
unfolding spaced_of spaced_from hex_of glyph_of
a_set = refl

an_invalid : spaced_of Order (0x4D ∷ 0x4F ∷ 0x06 ∷ 0x00 ∷ 0x00 ∷ 0x00 ∷ 0x01 ∷ 0x02 ∷ 0x22 ∷ 0x01 ∷ 0x31 ∷ 0x01 ∷ [])
    ≡ codes "4D4F 06 00000001 02 2201 3101"
unfolding spaced_of spaced_from hex_of glyph_of
an_invalid = refl

an_ok : spaced_of Order (0x4D ∷ 0x4F ∷ 0x03 ∷ 0x00 ∷ 0x00 ∷ 0x00 ∷ 0x01 ∷ [])
    ≡ codes "4D4F 03 00000001"
unfolding spaced_of spaced_from hex_of glyph_of
an_ok = refl

-- a SET with two bytes too many, and an order of no kind
a_long_set : spaced_of Order (0x4D ∷ 0x4F ∷ 0x02 ∷ 0x00 ∷ 0x00 ∷ 0x00 ∷ 0x01 ∷ 0x02 ∷ 0x01 ∷ 0x02 ∷ 0x22 ∷ 0x01 ∷ 0x02 ∷ 0x03 ∷ 0x04 ∷ [])
    ≡ codes "4D4F 02 00000001 02 0102 22 01 020304"
unfolding spaced_of spaced_from hex_of glyph_of
a_long_set = refl

of_no_kind : spaced_of Order (0x4D ∷ 0x4F ∷ 0x09 ∷ 0x00 ∷ 0x00 ∷ 0x00 ∷ 0x01 ∷ 0x01 ∷ 0x02 ∷ [])
    ≡ codes "4D4F 09 00000001 0102"
unfolding spaced_of spaced_from hex_of glyph_of
of_no_kind = refl

-- an order that ends before its kind
no_kind_yet : spaced_of Order (0x4D ∷ 0x4F ∷ [])
    ≡ codes "4D4F"
unfolding spaced_of spaced_from hex_of glyph_of
no_kind_yet = refl
