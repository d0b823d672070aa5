-- No second answer meets a promise of the C face.
-- Assumes nothing.
use mathlib.Core.Path.{refl, sym, ap, ◌∙◌}
use Rattle.laws.proofs.Determined.{Determines, both_say}
use Rattle.answer.proofs.Unique.{one_answer}
use Rattle.dac.specs.declared.Dac.{Dac}
use Rattle.port.specs.declared.Port.{Port}
use Rattle.dirgeflint.specs.contracts.dac_face.dirgeflint_dac_reset as dac_reset
use Rattle.dirgeflint.specs.contracts.dac_face.dirgeflint_dac_write_low as dac_write_low
use Rattle.dirgeflint.specs.contracts.dac_face.dirgeflint_dac_write_high as dac_write_high
use Rattle.dirgeflint.specs.contracts.dac_face.dirgeflint_dac_play as dac_play
use Rattle.dirgeflint.specs.contracts.display_face.dirgeflint_paint as paint
use Rattle.dirgeflint.specs.contracts.port_face.dirgeflint_port_reset as port_reset
use Rattle.dirgeflint.specs.contracts.port_face.dirgeflint_port_write_address as port_write_address
use Rattle.dirgeflint.specs.contracts.port_face.dirgeflint_port_write_attribute as port_write_attribute
use Rattle.dirgeflint.specs.contracts.port_face.dirgeflint_port_write_character as port_write_character
use Rattle.dirgeflint.specs.contracts.hex_face.dirgeflint_hex_read as hex_read
use Rattle.dirgeflint.specs.contracts.hex_face.dirgeflint_image_to_font as image_to_font
use Rattle.dirgeflint.specs.contracts.pulse_face.dirgeflint_pulse_level as pulse_level
use Rattle.dirgeflint.specs.contracts.writer_face.dirgeflint_hex_write as hex_write
use Rattle.dirgeflint.specs.contracts.packer_face.dirgeflint_pack as pack

pub dirgeflint_pulse_level_unique : Determines pulse_level.ended (λ w. pulse_level.clauses w.𝓛 w.𝓜.mem w.𝓡.run)
dirgeflint_pulse_level_unique w κs a g g' r r' ws ws' = both_say w (λ p q. (one_answer r r' (p ∙ sym q), refl))

-- the running record that the host lent
pub dirgeflint_dac_reset_unique : Determines dac_reset.ended (λ w. dac_reset.clauses w.𝓛 w.𝓜.mem w.𝓡.run)
dirgeflint_dac_reset_unique w κs a g g' r r' ws ws' = both_say w (λ p q. (refl, ap (λ (d : Dac). (d, tt)) (p ∙ sym q)))

pub dirgeflint_dac_write_low_unique : Determines dac_write_low.ended (λ w. dac_write_low.clauses w.𝓛 w.𝓜.mem w.𝓡.run)
dirgeflint_dac_write_low_unique w κs a g g' r r' ws ws' = both_say w (λ p q. (refl, ap (λ (d : Dac). (d, (tt, tt))) (p ∙ sym q)))

pub dirgeflint_dac_write_high_unique : Determines dac_write_high.ended (λ w. dac_write_high.clauses w.𝓛 w.𝓜.mem w.𝓡.run)
dirgeflint_dac_write_high_unique w κs a g g' r r' ws ws' = both_say w (λ p q. (refl, ap (λ (d : Dac). (d, (tt, tt))) (p ∙ sym q)))

pub dirgeflint_dac_play_unique : Determines dac_play.ended (λ w. dac_play.clauses w.𝓛 w.𝓜.mem w.𝓡.run)
dirgeflint_dac_play_unique w κs a g g' r r' ws ws' =
    both_say w (λ p q. (one_answer r r' (p.0 ∙ sym q.0), λ i. ((p.1 ∙ sym q.1) i, (tt, ((p.2 ∙ sym q.2) i, tt)))))

-- the write port that the host lent
pub dirgeflint_port_reset_unique : Determines port_reset.ended (λ w. port_reset.clauses w.𝓛 w.𝓜.mem w.𝓡.run)
dirgeflint_port_reset_unique w κs a g g' r r' ws ws' = both_say w (λ p q. (refl, ap (λ (d : Port). (d, tt)) (p ∙ sym q)))

pub dirgeflint_port_write_address_unique : Determines port_write_address.ended (λ w. port_write_address.clauses w.𝓛 w.𝓜.mem w.𝓡.run)
dirgeflint_port_write_address_unique w κs a g g' r r' ws ws' = both_say w (λ p q. (refl, ap (λ (d : Port). (d, (tt, tt))) (p ∙ sym q)))

pub dirgeflint_port_write_attribute_unique : Determines port_write_attribute.ended (λ w. port_write_attribute.clauses w.𝓛 w.𝓜.mem w.𝓡.run)
dirgeflint_port_write_attribute_unique w κs a g g' r r' ws ws' = both_say w (λ p q. (refl, ap (λ (d : Port). (d, (tt, tt))) (p ∙ sym q)))

pub dirgeflint_port_write_character_unique : Determines port_write_character.ended (λ w. port_write_character.clauses w.𝓛 w.𝓜.mem w.𝓡.run)
dirgeflint_port_write_character_unique w κs a g g' r r' ws ws' = both_say w (λ p q. (refl, ap (λ (d : Port). (d, (tt, tt))) (p ∙ sym q)))

-- the dots that the host lent
pub dirgeflint_paint_unique : Determines paint.ended (λ w. paint.clauses w.𝓛 w.𝓜.mem w.𝓡.run)
dirgeflint_paint_unique w κs a g g' r r' ws ws' =
    both_say w (λ p q. (one_answer r r' (p.0 ∙ sym q.0), λ i. (tt, (tt, (tt, (tt, (tt, (tt, ((p.1 ∙ sym q.1) i, tt)))))))))

-- the text that the host lent
pub dirgeflint_hex_write_unique : Determines hex_write.ended (λ w. hex_write.clauses w.𝓛 w.𝓜.mem w.𝓡.run)
dirgeflint_hex_write_unique w κs a g g' r r' ws ws' = both_say w (λ p q. (one_answer r r' (p.0 ∙ sym q.0), λ i. (tt, ((p.1 ∙ sym q.1) i, tt))))

-- the image, and the font, that the host lent
pub dirgeflint_hex_read_unique : Determines hex_read.ended (λ w. hex_read.clauses w.𝓛 w.𝓜.mem w.𝓡.run)
dirgeflint_hex_read_unique w κs a g g' r r' ws ws' =
    both_say w (λ p q. (one_answer r r' (p.0 ∙ sym q.0), λ i. (tt, ((p.1 ∙ sym q.1) i, tt))))

pub dirgeflint_image_to_font_unique : Determines image_to_font.ended (λ w. image_to_font.clauses w.𝓛 w.𝓜.mem w.𝓡.run)
dirgeflint_image_to_font_unique w κs a g g' r r' ws ws' =
    both_say w (λ p q. (one_answer r r' (p.0 ∙ sym q.0), λ i. (tt, ((p.1 ∙ sym q.1) i, tt))))

-- the font, and the places for cells, that the host lent
pub dirgeflint_pack_unique : Determines pack.ended (λ w. pack.clauses w.𝓛 w.𝓜.mem w.𝓡.run)
dirgeflint_pack_unique w κs a g g' r r' ws ws' =
    both_say w (λ p q. (one_answer r r' (p.0 ∙ sym q.0), λ i. (tt, ((p.1 ∙ sym q.1) i, ((p.2 ∙ sym q.2) i, tt)))))
