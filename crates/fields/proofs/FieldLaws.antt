-- The laws of packed fields, for every width at once, and the examples, by computation. Assumes nothing.
use mathlib.Core.Path.{refl}
use Rattle.fields.specs.Field.{value, bits_of, bits, bytes_of_bits, field_at, set_field}
use Rattle.fields.specs.FieldLaws.{FieldLaws, FieldExamples}
use Rattle.fields.proofs.Laws.{get_set, get_set_other, set-get}

pub field_laws : FieldLaws
field_laws = record {
  put_got = λ b at w v inside fits. get_set b at w inside v fits;
  others_untouched = λ b at w v at' w' inside apart. get_set_other b at w inside v at' w' apart;
  got_put = set-get;
}

pub field_examples : FieldExamples
unfolding value bits_of bits bytes_of_bits field_at set_field
field_examples = record { first_bit = refl; straddling = refl; fifty_bits = refl; straddling_put = refl }
