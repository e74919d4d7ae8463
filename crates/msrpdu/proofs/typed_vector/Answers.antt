use Rattle.std.proofs.Common.{ap, sym, ◌∙◌}
use Rattle.model.specs.Frames.{TypeOctet}
use Rattle.msrpdu.specs.Reader.{typed_read}
use Rattle.msrpdu.proofs.Laws.{octet-known, octet-unknown}
use Rattle.msrpdu.proofs.typed_vector.Goals as goal

pub returns-in-Some : goal.returns-in-Some
returns-in-Some c =
    c.attribute_vector.ensures
    ∙ sym (ap (λ (t : TypeOctet). typed_read c.args.version t c.args.list.now c.args.at)
    (octet-known 0 c.args.kind _ (sym c.from_octet.ensures ∙ c.in-Some.is)))

pub returns-in-None : goal.returns-in-None
returns-in-None c = sym (octet-unknown c.args.version c.args.kind c.args.list.now c.args.at (sym c.from_octet.ensures ∙ c.in-None.is))
