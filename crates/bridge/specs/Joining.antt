-- What start declares: "a Domain value per class it supports .. from start on", each by Join! in VO.
use Rattle.std.specs.Prelude.{List, Bool, cond, ℕ}
use Rattle.model.specs.Machines.{born}
use Rattle.model.specs.State.{Settings, Sender, class_a, class_b, supports, class_id, class_priority, port_at, sender_at, slot_of}
use Rattle.model.specs.Registrations.{at}

-- what a port sends by itself, with the Domain value of slot i declared anew
unfoldable pub joined_slot : ℕ → Sender → Sender
joined_slot i x = record { domains = at i (λ a. born tt) x.domains; leave_all = x.leave_all }

-- where the port supports the value's class
unfoldable pub joined_if : Bool → ℕ → Sender → Sender
joined_if supported i x = cond supported (joined_slot i x) x

-- the values of both classes, of the port at place p
unfoldable pub joined_own : Settings → ℕ → Sender → Sender
joined_own st p x =
    joined_if (supports (port_at st p) class_a) (slot_of (class_id class_a) (class_priority st class_a))
    (joined_if (supports (port_at st p) class_b) (slot_of (class_id class_b) (class_priority st class_b)) x)

-- of every port, by its place
unfoldable pub joined_at : Settings → List Sender → ℕ → Sender
joined_at st l p = joined_own st p (sender_at l p)
