-- The numbers of the faults.
use Rattle.std.specs.Prelude.{ℕ, Result, Ok, Err}
use Rattle.faults.specs.declared.ChallengeFault.{ChallengeFault}
use Rattle.faults.specs.declared.ChallengeFault.TheVariants as challenge
use Rattle.faults.specs.declared.ResponseFault.{ResponseFault}
use Rattle.faults.specs.declared.ResponseFault.TheVariants as response
use Rattle.faults.specs.declared.SuccessFault.{SuccessFault}
use Rattle.faults.specs.declared.SuccessFault.TheVariants as success
use Rattle.faults.specs.declared.FailureFault.{FailureFault}
use Rattle.faults.specs.declared.FailureFault.TheVariants as failure
use Rattle.faults.specs.declared.Fault.{Fault}
use Rattle.faults.specs.declared.Fault.TheVariants.{FewerThanFour, LengthUnderFour, LengthOverLent, LengthOverMost, Code, NoType, OtherType, NoOpCode, OtherOpCode, LengthUnderNine, MsLength, EapLength, ResponseLength, Challenge, Response, Success, Failure}

abbrev pub challenge_number : ChallengeFault → ℕ
challenge_number challenge.NoName = 1710
challenge_number challenge.ValueSize = 1711

abbrev pub response_number : ResponseFault → ℕ
response_number response.TooShort = 1720
response_number response.LongName = 1721
response_number response.ValueSize = 1722
response_number response.Zeros = 1723
response_number response.Flags = 1724

abbrev pub success_number : SuccessFault → ℕ
success_number success.Start = 1730
success_number success.Digits = 1731
success_number success.Tail = 1732

abbrev pub failure_number : FailureFault → ℕ
failure_number failure.Start = 1740
failure_number failure.Error = 1741
failure_number failure.NoRetry = 1742
failure_number failure.Retry = 1743
failure_number failure.NoChallenge = 1744
failure_number failure.Challenge = 1745
failure_number failure.NoVersion = 1746
failure_number failure.Version = 1747
failure_number failure.NoText = 1748

abbrev pub fault_number : Fault → ℕ
fault_number FewerThanFour = 1000
fault_number LengthUnderFour = 1100
fault_number LengthOverLent = 1101
fault_number LengthOverMost = 1200
fault_number Code = 1300
fault_number NoType = 1400
fault_number OtherType = 1401
fault_number NoOpCode = 1500
fault_number OtherOpCode = 1501
fault_number LengthUnderNine = 1600
fault_number MsLength = 1601
fault_number EapLength = 1700
fault_number ResponseLength = 1701
fault_number (Challenge f) = challenge_number f
fault_number (Response f) = response_number f
fault_number (Success f) = success_number f
fault_number (Failure f) = failure_number f

-- 0 where no fault is found
abbrev pub found : {A : Type 0} → (A → ℕ) → Result Unit A → ℕ
found number (Ok x) = 0
found number (Err fault) = number fault
