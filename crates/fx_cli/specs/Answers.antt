-- What a user sees of a call's end: its code, and the line of a refusal.
use Rattle.std.specs.Prelude.{◌≡◌, ℕ, List, [], ◌∷◌, ◌++◌, codes, refl}
use Rattle.std.specs.Fmt.{digits, decimal}
use Rattle.fx_base.specs.declared.spot.Spot.{Spot}
use Rattle.fx_check.specs.declared.fault.StaticFault.TheVariants.{UnknownName, NameTwice, OutOfRange, NotUniform, Misplaced, GroupDiffers, MemberDiffers, SubsetOutside, TooMuchWork}
use Rattle.fx_script.specs.declared.refusal.JobFault.TheVariants.{NotAscii, LineTooLong, BadLine, BadNumber, MissingPart, TrailingText}
use Rattle.fx_cli.specs.declared.status.Refusal.{Refusal}
use Rattle.fx_cli.specs.declared.status.Refusal.TheVariants.{TooBig, Text, Static, NotBuilt}
use Rattle.fx_cli.specs.declared.status.Status.{Status}
use Rattle.fx_cli.specs.declared.status.Status.TheVariants.{Done, BadWords, BadJob, ReadFault, WriteFault, NoMemory, Unfinished}

-- the code of a status
abbrev pub code_of : Status → ℕ
code_of Done = 0
code_of BadWords = 2
code_of (BadJob refusal spot) = 3
code_of ReadFault = 4
code_of WriteFault = 5
code_of NoMemory = 6
code_of Unfinished = 7

-- the word for a refusal
abbrev pub reason_of : Refusal → List ℕ
reason_of TooBig = codes "TooBig"
reason_of (Text NotAscii) = codes "NotAscii"
reason_of (Text LineTooLong) = codes "LineTooLong"
reason_of (Text BadLine) = codes "BadLine"
reason_of (Text BadNumber) = codes "BadNumber"
reason_of (Text MissingPart) = codes "MissingPart"
reason_of (Text TrailingText) = codes "TrailingText"
reason_of (Static UnknownName) = codes "UnknownName"
reason_of (Static NameTwice) = codes "NameTwice"
reason_of (Static OutOfRange) = codes "OutOfRange"
reason_of (Static NotUniform) = codes "NotUniform"
reason_of (Static Misplaced) = codes "Misplaced"
reason_of (Static GroupDiffers) = codes "GroupDiffers"
reason_of (Static MemberDiffers) = codes "MemberDiffers"
reason_of (Static SubsetOutside) = codes "SubsetOutside"
reason_of (Static TooMuchWork) = codes "TooMuchWork"
reason_of NotBuilt = codes "NotBuilt"

-- the line for words that name no mode, with its line end
abbrev pub words_line : List ℕ
words_line = codes "fenix: bad words" ++ (10 ∷ [])

-- a place, as a refusal's line has it
abbrev pub place_of : Spot → List ℕ
place_of spot = decimal spot.line ++ (58 ∷ decimal spot.column)

-- the line for a refused job, with its line end
abbrev pub refusal_line : Refusal → Spot → List ℕ
refusal_line refusal spot = codes "fenix: bad job: " ++ (reason_of refusal ++ (codes " at " ++ (place_of spot ++ (10 ∷ []))))

-- a job whose sixth line is bad from its start
sixth_line : refusal_line (Text BadLine) (record { line = 6; column = 1 }) ≡ codes "fenix: bad job: BadLine at 6:1" ++ (10 ∷ [])
unfolding digits
sixth_line = refl
