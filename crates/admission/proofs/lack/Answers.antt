use Rattle.admission.proofs.Laws.{lack-octets}
use Rattle.admission.proofs.lack.Goals as goal

pub returns : goal.returns
returns c =
    λ st e.
    rw (c.put-4.ensures, c.put-3.ensures, c.put-2.ensures, c.put.ensures)
    (lack-octets st _ _ c.requires.0 e)
