-- The three demands, of the code: theorems whose premises are the contracts of the seven calls (specs/Promises), brought together.
--
-- 1. Every call on every input ends with an answer. For each call its numbers, each exactly when 01's table or 02 says; a refusal alters
--    nothing; no table left by start and the calls after it breaks a form rule.
-- 2. Registrations, decisions, reports and written PDUs are what the rules give; and the worked example by calls.
-- 3. The order among ports never matters.
--
-- Beside them what 02 asks: of the edge of the domain, of latency that grows, of inbound ports and shared addresses, of talker pruning,
-- of why a stream was refused, of what an unimportant stream can't touch, and of what is sent, when it is quiet, and what a neighbour has
-- registered of it.
pub use Rattle.bridge.proofs.Demand1.{StartAnswers, start-answers, ReceiveAnswers, receive-answers, MmrpAnswers, mmrp-answers, AdvanceAnswers, advance-answers, WriteAnswers, write-answers, ReportAnswers, report-answers, WhyAnswers, why-answers, Left, left-formed}
pub use Rattle.bridge.proofs.Demand2.{start-leaves, Registers, receive-registers, RegistersAddresses, mmrp-registers, Decides, advance-decides, Tells, write-tells, Shows, report-shows}
pub use Rattle.bridge.proofs.AfterAdvance.{ShowsSettled, report-settled}
pub use Rattle.bridge.proofs.Passing.{Written, Passes, write-passes}
pub use Rattle.bridge.proofs.Sending.{left-sent, quiet-code, quiet-writes, others-stay-code, ended-by-lv-code}
pub use Rattle.bridge.proofs.Linked.{Delivered, two-bridges-code, two-domains-code}
pub use Rattle.bridge.proofs.Worked.{all-accepted, reports-printed, listener-written, talker-written, wrong-port-refused, early-time-refused}
pub use Rattle.bridge.proofs.OwnCodes.{NoneBefore, GivenWhere}
pub use Rattle.bridge.proofs.Boundaries.{OutsideHeld, flag-code, no-flag-code, eight-code}
pub use Rattle.bridge.proofs.Growth.{first-stays-code, first-expires-code, seven-code, fallen-back-code}
pub use Rattle.bridge.proofs.FanIn.{five-code, fifteen-code, BringsInHeld, few-bring-in-code, one-address-code}
pub use Rattle.bridge.proofs.Untouched.{untouched-code}
pub use Rattle.bridge.proofs.Pruning.{pruned-code, pruning-off-code}
pub use Rattle.bridge.proofs.Reasons.{Applies, Gives, SubtractedFor, Lists, Reasoned, why-reasons}
pub use Rattle.bridge.proofs.Demand3.{Takes, Handed, receive-order-code, SameByCode, demand3-code, room-code}
