use Rattle.std.proofs.Common.{◌≡◌, ◌++◌, w64}
use Rattle.std.proofs.lemmas.Int.{to_z-of_z}
use Rattle.std.specs.Prelude.{codes}
use Rattle.std.specs.Fmt.{signed_decimal}
use Rattle.report.proofs.WrittenTextLemmas.{appended_three}
use Rattle.report.proofs.answer_forms.write_present.Goals as goal

pub returns : goal.returns
returns c =
    let one = c.extend_from_slice.new.self.items in
    let two = c.write_number.new.text.items in
    let digits : two ≡ one ++ signed_decimal c.args.value =
    rw (to_z-of_z w64 c.args.value c.ranges.value) at c.in_ok-write_number.ensures in
    appended_three c.extend_from_slice-2.result c.args.report.now.items one two c.extend_from_slice-2.new.self.items
    (codes "OptionalLong[") (signed_decimal c.args.value) (codes "]") c.in_ok-extend_from_slice.ensures.items digits
    c.extend_from_slice-2.ensures.items
