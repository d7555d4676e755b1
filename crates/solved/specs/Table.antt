-- The table of solved examples.
use Rattle.std.specs.Prelude.{ℕ, List, [], ◌∷◌, ◌++◌, replicate, Some, None}
use Rattle.std.specs.List.{AllByRecursion}
use Rattle.samples.specs.Files.{four_junctions, two_ways, two_cells}
use Rattle.calls.specs.declared.Fault.TheVariants.{OffMap, AlreadyNamed, ListFull, SlotAbsent, AlreadyClosed, NotClosed, EndOffMap, StateLacks}
use Rattle.calls.specs.declared.Call.{Call}
use Rattle.calls.specs.declared.Call.TheVariants.{Name, Build, Close, Reopen, Ask, Tally, Replan}
use Rattle.calls.specs.declared.Answer.TheVariants.{Done, Length, NoWay, Count, Refused}
use Rattle.solved.specs.Rows.{File, sheet_file, block_file, in_paces, in_gates, Exchange, Row, refused, says, settles, holds, kept, indexed, stored, handed, asked, lived, Stands}

-- ---- the maps
abbrev pub four : File
four = sheet_file four_junctions

abbrev pub ways : File
ways = sheet_file two_ways

abbrev pub cells : File
cells = block_file two_cells

-- a sheet of one junction and one slot, whose record these ten bytes are; its junction has no links
abbrev pub one_slot : List ℕ → File
one_slot slot = sheet_file (0x53 ∷ 1 ∷ 1 ∷ 0 ∷ 0 ∷ 0 ∷ 0 ∷ 0 ∷ slot)

-- a sheet of seventeen junctions and no slots
abbrev pub seventeen : File
seventeen = sheet_file (0x53 ∷ 17 ∷ 0 ∷ 0 ∷ replicate 68 0)

-- ---- lives
-- 2 is named and the index built
abbrev pub named2 : List Call
named2 = Name 2 ∷ Build ∷ []

-- the lines of the text program's example; then 2 is reopened
abbrev pub detours : Exchange
detours =
    (Name 2, Done)
    ∷ (Build, Done)
    ∷ (Ask 1 4, Length 7 0)
    ∷ (Close 2, Done)
    ∷ (Ask 1 4, Length 10 1)
    ∷ (Close 2, Refused AlreadyClosed)
    ∷ (Close 4, Done)
    ∷ (Ask 1 4, NoWay 1)
    ∷ (Tally, Count 3)
    ∷ (Ask 3 3, Length 0 0)
    ∷ (Reopen 2, Done)
    ∷ (Ask 1 4, Length 7 0)
    ∷ []

-- refusals; at replan closures and tally stay, and the transit list does not
abbrev pub refusals : Exchange
refusals =
    (Ask 1 4, Refused StateLacks)
    ∷ (Close 2, Refused StateLacks)
    ∷ (Name 0, Refused OffMap)
    ∷ (Name 5, Refused OffMap)
    ∷ (Name 2, Done)
    ∷ (Name 2, Refused AlreadyNamed)
    ∷ (Build, Done)
    ∷ (Name 1, Refused StateLacks)
    ∷ (Ask 1 4, Length 7 0)
    ∷ (Close 6, Refused SlotAbsent)
    ∷ (Close 2, Done)
    ∷ (Reopen 4, Refused NotClosed)
    ∷ (Ask 1 4, Length 10 1)
    ∷ (Ask 0 4, Refused EndOffMap)
    ∷ (Replan, Done)
    ∷ (Tally, Refused StateLacks)
    ∷ (Reopen 2, Refused StateLacks)
    ∷ (Build, Done)
    ∷ (Ask 1 4, Length 10 0)
    ∷ (Tally, Count 3)
    ∷ []

-- with sixteen named, off the map comes first, then named already, then the full list
abbrev pub full_list : Exchange
full_list =
    (Name 1, Done) ∷ (Name 2, Done) ∷ (Name 3, Done) ∷ (Name 4, Done) ∷ (Name 5, Done) ∷ (Name 6, Done) ∷ (Name 7, Done) ∷ (Name 8, Done)
    ∷ (Name 9, Done) ∷ (Name 10, Done) ∷ (Name 11, Done) ∷ (Name 12, Done) ∷ (Name 13, Done) ∷ (Name 14, Done) ∷ (Name 15, Done) ∷ (Name 16, Done)
    ∷ (Name 18, Refused OffMap) ∷ (Name 16, Refused AlreadyNamed) ∷ (Name 17, Refused ListFull) ∷ []

-- ---- the table
-- questions and answers
abbrev pub answers : List Row
answers =
    -- on the map of four junctions, in paces, with 2 named; then 2 is closed, then 4 too, then 2 is reopened
    asked in_paces four named2 1 4 (Some 7) 0
    ∷ asked in_paces four (named2 ++ Close 2 ∷ []) 1 4 (Some 10) 1
    ∷ asked in_paces four (named2 ++ Close 2 ∷ Close 4 ∷ []) 1 4 None 1
    ∷ asked in_paces four (named2 ++ Close 2 ∷ Close 4 ∷ []) 3 3 (Some 0) 0
    ∷ asked in_paces four (named2 ++ Close 2 ∷ Close 4 ∷ Reopen 2 ∷ []) 1 4 (Some 7) 0
    -- in gates, nothing closed; the empty walk has the kind's zero
    ∷ asked in_gates four named2 1 4 (Some 5) 0
    ∷ asked in_gates four named2 1 1 (Some 18446744073709551615) 0
    -- of two ways of equal length, a closed street in the tree of 1 affects it, though the length survives
    ∷ asked in_paces ways (Name 1 ∷ Build ∷ Close 3 ∷ []) 1 4 (Some 2) 1
    -- whole lives
    ∷ lived in_paces four detours
    ∷ lived in_paces four refusals
    ∷ lived in_gates seventeen full_list
    ∷ []

-- trees, legs and the inverted index
abbrev pub trees : List Row
trees =
    -- the tree of 2 in paces holds slots 2, 5 and 3: junction 4 by slot 2, junction 1 by slot 5, junction 3 by slot 3
    holds in_paces four (2 ∷ []) 2 (2 ∷ 5 ∷ 3 ∷ [])
    ∷ settles in_paces four (2 ∷ []) 2 4 2 4
    ∷ settles in_paces four (2 ∷ []) 2 1 5 5
    ∷ settles in_paces four (2 ∷ []) 2 3 3 10
    ∷ settles in_paces four (2 ∷ []) 2 2 0 0
    -- of two ways of equal length the tree of 1 settles 4 by slot 3, the lower one
    ∷ settles in_paces ways (1 ∷ []) 1 4 3 2
    ∷ holds in_paces ways (1 ∷ []) 1 (1 ∷ 2 ∷ 3 ∷ [])
    ∷ kept in_paces ways (1 ∷ []) (3 ∷ []) 1 1
    -- with 2 and 3 named, the tree of 3 holds slots 4, 5 and 1; street 2 is in one tree, street 5 in both, and no street 6
    ∷ holds in_paces four (2 ∷ 3 ∷ []) 3 (4 ∷ 5 ∷ 1 ∷ [])
    ∷ indexed in_paces four (2 ∷ 3 ∷ []) 5 (1 ∷ 2 ∷ [])
    ∷ indexed in_paces four (2 ∷ 3 ∷ []) 2 (1 ∷ [])
    ∷ indexed in_paces four (2 ∷ 3 ∷ []) 1 (2 ∷ [])
    ∷ indexed in_paces four (2 ∷ 3 ∷ []) 6 []
    ∷ kept in_paces four (2 ∷ 3 ∷ []) (2 ∷ []) 1 1
    ∷ kept in_paces four (2 ∷ 3 ∷ []) (2 ∷ []) 2 0
    ∷ kept in_paces four (2 ∷ 3 ∷ []) (5 ∷ 2 ∷ []) 1 2
    ∷ kept in_paces four (2 ∷ 3 ∷ []) (5 ∷ 2 ∷ []) 2 1
    -- the stored legs
    ∷ stored in_paces four (2 ∷ 3 ∷ []) 1 2 (Some 10)
    ∷ stored in_paces four (2 ∷ 3 ∷ []) 2 1 (Some 9)
    ∷ stored in_paces four (2 ∷ 3 ∷ []) 1 1 None
    -- the legs of an ask from 1 to 4 with street 2 closed: access, a leg worked out anew, a stored one, egress, and no direct length
    ∷ handed in_paces four (2 ∷ 3 ∷ []) (2 ∷ []) 1 4 0 1 (Some 3)
    ∷ handed in_paces four (2 ∷ 3 ∷ []) (2 ∷ []) 1 4 0 2 (Some 5)
    ∷ handed in_paces four (2 ∷ 3 ∷ []) (2 ∷ []) 1 4 1 2 None
    ∷ handed in_paces four (2 ∷ 3 ∷ []) (2 ∷ []) 1 4 2 1 (Some 9)
    ∷ handed in_paces four (2 ∷ 3 ∷ []) (2 ∷ []) 1 4 1 31 None
    ∷ handed in_paces four (2 ∷ 3 ∷ []) (2 ∷ []) 1 4 2 31 (Some 5)
    ∷ handed in_paces four (2 ∷ 3 ∷ []) (2 ∷ []) 1 4 0 31 None
    ∷ []

-- map files: what they say, and one refused file for each number
abbrev pub files : List Row
files =
    says four 4 (Some (1, 2, 3) ∷ Some (2, 4, 4) ∷ Some (1, 3, 5) ∷ Some (3, 4, 5) ∷ Some (4, 1, 1) ∷ [])
    ∷ says ways 4 (Some (1, 2, 1) ∷ Some (1, 3, 1) ∷ Some (2, 4, 1) ∷ Some (3, 4, 1) ∷ [])
    -- the block has only slot 2, from 1 to 2, of length 4; one zero byte more is refused
    ∷ says cells 2 (None ∷ Some (1, 2, 4) ∷ None ∷ None ∷ None ∷ None ∷ None ∷ None ∷ [])
    ∷ refused (block_file (two_cells ++ 0 ∷ [])) 4
    ∷ refused (block_file (0x47 ∷ 1 ∷ 1 ∷ 1 ∷ [])) 8
    ∷ refused (block_file (0x47 ∷ 1 ∷ [])) 1
    ∷ refused (block_file (0x53 ∷ 1 ∷ 1 ∷ 0 ∷ [])) 2
    ∷ refused (block_file (0x47 ∷ 129 ∷ 1 ∷ [])) 3
    ∷ refused (sheet_file (0x53 ∷ 1 ∷ 0 ∷ [])) 1
    ∷ refused (sheet_file (0x54 ∷ 1 ∷ 0 ∷ 0 ∷ 0 ∷ 0 ∷ 0 ∷ 0 ∷ [])) 2
    ∷ refused (sheet_file (0x53 ∷ 129 ∷ 0 ∷ 0 ∷ [])) 3
    ∷ refused (sheet_file (four_junctions ++ 0 ∷ [])) 4
    ∷ refused (one_slot (0 ∷ 1 ∷ 0 ∷ 0 ∷ 0 ∷ 0 ∷ 0 ∷ 0 ∷ 0 ∷ 0 ∷ [])) 5
    ∷ refused (one_slot (1 ∷ 2 ∷ 0 ∷ 0 ∷ 0 ∷ 0 ∷ 0 ∷ 0 ∷ 0 ∷ 0 ∷ [])) 6
    ∷ refused (one_slot (1 ∷ 1 ∷ 0 ∷ 0 ∷ 0 ∷ 0 ∷ 0 ∷ 0 ∷ 0 ∷ 0 ∷ [])) 7
    ∷ []

abbrev pub table : List Row
table = answers ++ trees ++ files

-- every example of the table stands
abbrev pub Solved : Type 0
Solved = AllByRecursion Stands table
