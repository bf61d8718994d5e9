use Rattle.ebpf_object.proofs.Patches as patches
use Rattle.ebpf_object.proofs.laws.greatest_name_stands.Goals as goal

pub returns-clause-covered : goal.returns-clause-covered
returns-clause-covered c = patches.greatest_name_stands

pub returns-clause-uncovered : goal.returns-clause-uncovered
returns-clause-uncovered c = patches.other_bytes_stay

pub returns-clause-lengths : goal.returns-clause-lengths
returns-clause-lengths c = patches.lengths_stay

pub returns-clause-maps_stay : goal.returns-clause-maps_stay
returns-clause-maps_stay c = patches.maps_stay

pub returns-clause-patches_are_values : goal.returns-clause-patches_are_values
returns-clause-patches_are_values c = patches.patches_are_values

pub returns-clause-values_are_patches : goal.returns-clause-values_are_patches
returns-clause-values_are_patches c = patches.values_are_patches
