-- The published number, layer and place of each fault, and the names of the layers.
use Rattle.std.specs.Prelude.{ℕ, List, codes}
use Rattle.netfile.specs.declared.faults.Layer.{Layer}
use Rattle.netfile.specs.declared.faults.Layer.TheVariants.{File as FileLayer, Record as RecordLayer, Network as NetworkLayer}
use Rattle.netfile.specs.declared.faults.FileFault.{FileFault}
use Rattle.netfile.specs.declared.faults.FileFault.TheVariants.{Size, Signature, Edition, PairCount, PartBounds, PartLength}
use Rattle.netfile.specs.declared.faults.RecordFault.{RecordFault}
use Rattle.netfile.specs.declared.faults.RecordFault.TheVariants.{File, NotRising}
use Rattle.netfile.specs.declared.faults.NetworkFault.{NetworkFault}
use Rattle.netfile.specs.declared.faults.NetworkFault.TheVariants.{Record, Ends}

abbrev pub layer_name : Layer → List ℕ
layer_name FileLayer = codes "file"
layer_name RecordLayer = codes "record"
layer_name NetworkLayer = codes "network"

abbrev pub file_number : FileFault → ℕ
file_number Size = 2
file_number Signature = 3
file_number Edition = 4
file_number PairCount = 5
file_number (PartBounds p) = 6
file_number (PartLength p) = 7

abbrev pub record_number : RecordFault → ℕ
record_number (File f) = file_number f
record_number (NotRising p) = 8

abbrev pub number_of : NetworkFault → ℕ
number_of (Record f) = record_number f
number_of (Ends p) = 9

abbrev pub record_layer : RecordFault → Layer
record_layer (File f) = FileLayer
record_layer (NotRising p) = RecordLayer

abbrev pub layer_of : NetworkFault → Layer
layer_of (Record f) = record_layer f
layer_of (Ends p) = NetworkLayer

-- the byte at fault, from 0; where it is not fixed, the fault carries it
abbrev pub file_place : FileFault → ℕ
file_place Size = 0
file_place Signature = 0
file_place Edition = 4
file_place PairCount = 5
file_place (PartBounds p) = p
file_place (PartLength p) = p

abbrev pub record_place : RecordFault → ℕ
record_place (File f) = file_place f
record_place (NotRising p) = p

abbrev pub place_of : NetworkFault → ℕ
place_of (Record f) = record_place f
place_of (Ends p) = p
