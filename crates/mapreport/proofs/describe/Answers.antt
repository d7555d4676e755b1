use Rattle.std.proofs.Common.{◌≡◌, ℕ, ◌+◌, ◌-◌, ◌<◌, List, [], ◌∷◌, ◌++◌, Option, string_bytes, sym, ap, ◌∙◌, append_assoc, append-nil, arith}
use Rattle.std.specs.List.{flat_map, range_with_len}
use Rattle.std.proofs.lemmas.Grind.{flat_map-append}
use Rattle.std.proofs.lemmas.List.{map-id}
use Rattle.std.proofs.lemmas.List.FromFn.{map-range_with_len_more}
use Rattle.maps.specs.Graph.{Street, Graph}
use Rattle.mapreport.specs.Report.{street_line, street_lines, head_line, street_count}
use Rattle.mapreport.proofs.describe.Goals as goal
use Rattle.mapreport.proofs.describe.Goals.{else-loop-e-test, then-loop-e-test+in_ok-add_street+else-e-m}

-- the lines up to one slot more
lines_more : (g : Graph) (n e : ℕ) → 1 + n ≡ e → street_lines g (n + 1) ≡ street_lines g n ++ street_line e (g.street e)
lines_more g n e is =
    let line : ℕ → List ℕ = λ k. street_line k (g.street k) in
    let one = sym (map-id (range_with_len 1 (n + 1))) ∙ map-range_with_len_more (λ k. k) 1 n e is ∙ ap (λ l. l ++ e ∷ []) (map-id (range_with_len 1 n)) in
    ap (flat_map line) one ∙ flat_map-append line (range_with_len 1 n) (e ∷ []) ∙ ap (λ l. street_lines g n ++ l) (append-nil (line e))

-- the text so far, with the line of slot e
text_more : (g : Graph) (head before after : List ℕ) (e n : ℕ) (s : Option Street) → 0 < e → n ≡ e → s ≡ g.street e → before ≡ head ++ street_lines g (e - 1) → after ≡ before ++ street_line e s → after ≡ head ++ street_lines g n
text_more g head before after e n s lo last is so then =
    let next : e - 1 + 1 ≡ n = omega arith in
    let lines = lines_more g (e - 1) e (omega arith) in
    cc (append_assoc head (street_lines g (e - 1)) (street_line e s))

pub loop-e-preserved : goal.loop-e-preserved
loop-e-preserved g c =
    let m = g.M.Map.graph c.args.map.now in
    let head = head_line c.args.name.now m.junctions m.slots (street_count m m.slots) in
    (text_more m head _ _ c.loop-e.e _ _ (omega arith) (omega arith) c.slot.ensures c.loop-e.invariant.0 c.in_ok-add_street.ensures, omega arith)

pub returns : goal.returns
returns g c =
    let m = g.M.Map.graph c.args.map.now in
    let head = head_line c.args.name.now m.junctions m.slots (street_count m m.slots) in
    elim c.loop-e-test.branch [
      | else-loop-e-test w ↦
          let all : c.loop-e.e - 1 ≡ m.slots = omega arith in
          ap string_bytes w.text-is ∙ c.loop-e.invariant.0 ∙ ap (λ n. head ++ street_lines m n) all
      | then-loop-e-test+in_ok-add_street+else-e-m w ↦
          ap string_bytes w.text-is ∙ text_more m head _ _ c.loop-e.e _ _ (omega arith) (omega arith) w.slot.ensures c.loop-e.invariant.0 w.in_ok-add_street.ensures
    ]
