-- How a listing shows a fault.
use Rattle.std.specs.Prelude.{ℕ, List, ◌++◌, codes, decimal}
use Rattle.fault.specs.declared.Layer.{Layer}
use Rattle.fault.specs.declared.Layer.TheVariants.{Text, Line, Sheet}
use Rattle.fault.specs.declared.Fault.{Fault}
use Rattle.fault.specs.Refusals.{number_of}

abbrev pub layer_text : Layer → List ℕ
layer_text Text = codes "text"
layer_text Line = codes "line"
layer_text Sheet = codes "sheet"

-- F,line,field,layer,number
abbrev pub fault_text : Fault → List ℕ
fault_text f = codes "F," ++ (decimal f.line ++ (codes "," ++ (decimal f.field ++ (codes "," ++ (layer_text f.layer ++ (codes "," ++ decimal (number_of f.refusal)))))))
