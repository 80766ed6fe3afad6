-- The run of document 01, and the calls of a landlord, of certificates that begin inside a bill and of amendments, by computation. Assumes nothing.
use mathlib.Core.Path.{refl}
use Rattle.model.specs.History.{answers_to}
use Rattle.model.specs.Run.{zero_book, run_calls, run_answers, TheRun}
use Rattle.model.specs.LandlordExample.{landlord_calls, landlord_answers, LandlordExample}
use Rattle.model.specs.CertificateInsideExample.{certificate_inside_calls, certificate_inside_answers, CertificateInsideExample}
use Rattle.model.specs.BlendAndExtendExample.{blend_book, blend_calls, blend_answers, BlendAndExtendExample}
use Rattle.model.proofs.Computed.{answers_computed}

pub the-run : TheRun
unfolding answers_computed answers_to zero_book run_calls run_answers
the-run = refl

pub landlord_example : LandlordExample
unfolding answers_computed answers_to zero_book landlord_calls landlord_answers
landlord_example = refl

pub certificate_inside_example : CertificateInsideExample
unfolding answers_computed answers_to zero_book certificate_inside_calls certificate_inside_answers
certificate_inside_example = refl

pub blend_and_extend_example : BlendAndExtendExample
unfolding answers_computed answers_to blend_book blend_calls blend_answers
blend_and_extend_example = refl
