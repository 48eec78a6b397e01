-- A history as its size is counted: the entries in order, and between them the shifts, which have none.
use Rattle.std.specs.Prelude.{List, [], ◌∷◌, ◌++◌, map, filter_map, Option, Some, None}
use Rattle.smx_history.specs.declared.entry.Entry.{Entry}

-- the entries, over all shifts
abbrev pub entries_among : List (Option Entry) → List Entry
entries_among marks = filter_map (λ mark. mark) marks

-- what is stored after those entries and these marks
abbrev pub since : List Entry → List (Option Entry) → List Entry
since es [] = es
since es (None ∷ marks) = since [] marks
since es (Some e ∷ marks) = since (es ++ e ∷ []) marks

-- the entries after the last shift
abbrev pub stored_among : List (Option Entry) → List Entry
stored_among marks = since [] marks

-- lists of entries, each of one shift, as marks: each begins with a shift (one at the very start leaves the size as it is)
abbrev pub marks_in : List (List Entry) → List (Option Entry)
marks_in [] = []
marks_in (es ∷ lists) = None ∷ map Some es ++ marks_in lists
