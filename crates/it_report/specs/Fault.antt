-- The number and the name of each fault (this profile's choice).
use Rattle.std.specs.Prelude.{ℕ, List, codes}
use Rattle.it_report.specs.declared.refusal.Fault.{Fault}
use Rattle.it_report.specs.declared.refusal.Fault.TheVariants.{BadPolicy, BadSums, BadSums512}
use Rattle.it_report.specs.declared.refusal.Fault.TheVariants.{BadMoment}
use Rattle.it_report.specs.declared.refusal.Fault.TheVariants.{NoFiles, BadEnvelope}
use Rattle.it_report.specs.declared.refusal.Fault.TheVariants.{WrongPayloadType, OwnerMissing}
use Rattle.it_report.specs.declared.refusal.Fault.TheVariants.{BadLayout, Expired, TwoPayloads}
use Rattle.it_report.specs.declared.refusal.Fault.TheVariants.{TooDeep, Threshold, Disagree}
use Rattle.it_report.specs.declared.refusal.Fault.TheVariants.{InspectionInSublayout, RuleFailed}
use Rattle.it_report.specs.declared.refusal.Fault.TheVariants.{RecordMissing, BadRecord}
use Rattle.it_report.specs.declared.refusal.Fault.TheVariants.{NoExpectation, NoProvenance}

abbrev pub number_of : Fault → ℕ
number_of (BadPolicy part) = 10
number_of (BadSums line) = 12
number_of (BadSums512 line) = 12
number_of BadMoment = 13
number_of NoFiles = 14
number_of BadEnvelope = 20
number_of WrongPayloadType = 21
number_of (OwnerMissing id) = 22
number_of (BadLayout part) = 23
number_of Expired = 30
number_of (TwoPayloads step id) = 31
number_of TooDeep = 32
number_of (Threshold step found needed) = 33
number_of (Disagree step id) = 34
number_of InspectionInSublayout = 35
number_of (RuleFailed item side index path) = 40
number_of (RecordMissing name) = 50
number_of (BadRecord name) = 51
number_of (NoExpectation path) = 60
number_of (NoProvenance path best) = 61

abbrev pub name_of : Fault → List ℕ
name_of (BadPolicy part) = codes "BadPolicy"
name_of (BadSums line) = codes "BadSums"
name_of (BadSums512 line) = codes "BadSums"
name_of BadMoment = codes "BadMoment"
name_of NoFiles = codes "NoFiles"
name_of BadEnvelope = codes "BadEnvelope"
name_of WrongPayloadType = codes "WrongPayloadType"
name_of (OwnerMissing id) = codes "OwnerMissing"
name_of (BadLayout part) = codes "BadLayout"
name_of Expired = codes "Expired"
name_of (TwoPayloads step id) = codes "TwoPayloads"
name_of TooDeep = codes "TooDeep"
name_of (Threshold step found needed) = codes "Threshold"
name_of (Disagree step id) = codes "Disagree"
name_of InspectionInSublayout = codes "InspectionInSublayout"
name_of (RuleFailed item side index path) = codes "RuleFailed"
name_of (RecordMissing name) = codes "RecordMissing"
name_of (BadRecord name) = codes "BadRecord"
name_of (NoExpectation path) = codes "NoExpectation"
name_of (NoProvenance path best) = codes "NoProvenance"
