-- Examples of the two map formats: what the definitions of layout, refusal and links give on bytes that are written out.
use Rattle.std.specs.Prelude.{◌≡◌, ℕ, List, [], ◌∷◌, ◌++◌, Some, None}
use Rattle.sheet.specs.declared.records.Chain.TheVariants.{Leaving, Entering}
use Rattle.sheet.specs.Layout.{sheet_graph}
use Rattle.sheet.specs.Chains.{first_link, next_link, lowest_on}
use Rattle.sheet.specs.Refusal as sheet
use Rattle.block.specs.Layout.{block_graph}
use Rattle.block.specs.Refusal as block
use Rattle.samples.specs.Files.{four_junctions, two_cells}

-- a sheet with one junction and one slot whose record these ten bytes are, and no links from its junction
abbrev pub one_slot : List ℕ → List ℕ
one_slot slot = 0x53 ∷ 1 ∷ 1 ∷ 0 ∷ 0 ∷ 0 ∷ 0 ∷ 0 ∷ slot

pub record SheetExamples : Type 0 where
  pub opens : sheet.refusal four_junctions ≡ 0
  pub counts : ((sheet_graph four_junctions).junctions ≡ 4) × ((sheet_graph four_junctions).slots ≡ 5)
  pub street0 : (sheet_graph four_junctions).street 0 ≡ None
  pub street1 : (sheet_graph four_junctions).street 1 ≡ Some (1, 2, 3)
  pub street2 : (sheet_graph four_junctions).street 2 ≡ Some (2, 4, 4)
  pub street3 : (sheet_graph four_junctions).street 3 ≡ Some (1, 3, 5)
  pub street4 : (sheet_graph four_junctions).street 4 ≡ Some (3, 4, 5)
  pub street5 : (sheet_graph four_junctions).street 5 ≡ Some (4, 1, 1)
  pub street6 : (sheet_graph four_junctions).street 6 ≡ None
  -- slots 1 and 3 leave junction 1, slots 2 and 4 enter junction 4: each link is the lowest street of its chain
  pub leaving : (lowest_on (sheet_graph four_junctions) Leaving 1 0 ≡ 1) × (lowest_on (sheet_graph four_junctions) Leaving 1 1 ≡ 3) × (lowest_on (sheet_graph four_junctions) Leaving 1 3 ≡ 0)
  pub entering : (lowest_on (sheet_graph four_junctions) Entering 4 0 ≡ 2) × (lowest_on (sheet_graph four_junctions) Entering 4 2 ≡ 4) × (lowest_on (sheet_graph four_junctions) Entering 4 4 ≡ 0)
  pub links : (first_link four_junctions Leaving 1 ≡ 1) × (next_link four_junctions Leaving 1 ≡ 3) × (first_link four_junctions Entering 4 ≡ 2) × (next_link four_junctions Entering 2 ≡ 4)
  -- one refused file for each number
  pub short : sheet.refusal (0x53 ∷ 1 ∷ 0 ∷ []) ≡ 1
  pub other : sheet.refusal (0x54 ∷ 1 ∷ 0 ∷ 0 ∷ 0 ∷ 0 ∷ 0 ∷ 0 ∷ []) ≡ 2
  pub range : sheet.refusal (0x53 ∷ 129 ∷ 0 ∷ 0 ∷ []) ≡ 3
  pub longer : sheet.refusal (four_junctions ++ 0 ∷ []) ≡ 4
  pub rest : sheet.refusal (one_slot (0 ∷ 1 ∷ 0 ∷ 0 ∷ 0 ∷ 0 ∷ 0 ∷ 0 ∷ 0 ∷ 0 ∷ [])) ≡ 5
  pub ends : sheet.refusal (one_slot (1 ∷ 2 ∷ 0 ∷ 0 ∷ 0 ∷ 0 ∷ 0 ∷ 0 ∷ 0 ∷ 0 ∷ [])) ≡ 6
  pub link : sheet.refusal (one_slot (1 ∷ 1 ∷ 0 ∷ 0 ∷ 0 ∷ 0 ∷ 0 ∷ 0 ∷ 0 ∷ 0 ∷ [])) ≡ 7

pub record BlockExamples : Type 0 where
  pub opens : block.refusal two_cells ≡ 0
  pub counts : ((block_graph two_cells).junctions ≡ 2) × ((block_graph two_cells).slots ≡ 8)
  pub street1 : (block_graph two_cells).street 1 ≡ None
  pub street2 : (block_graph two_cells).street 2 ≡ Some (1, 2, 4)
  pub street3 : (block_graph two_cells).street 3 ≡ None
  pub street4 : (block_graph two_cells).street 4 ≡ None
  pub street5 : (block_graph two_cells).street 5 ≡ None
  pub street6 : (block_graph two_cells).street 6 ≡ None
  pub street7 : (block_graph two_cells).street 7 ≡ None
  pub street8 : (block_graph two_cells).street 8 ≡ None
  -- one refused file for each number
  pub short : block.refusal (0x47 ∷ 1 ∷ []) ≡ 1
  pub other : block.refusal (0x53 ∷ 1 ∷ 1 ∷ 0 ∷ []) ≡ 2
  pub range : block.refusal (0x47 ∷ 129 ∷ 1 ∷ []) ≡ 3
  pub longer : block.refusal (two_cells ++ 0 ∷ []) ≡ 4
  pub edge : block.refusal (0x47 ∷ 1 ∷ 1 ∷ 1 ∷ []) ≡ 8
