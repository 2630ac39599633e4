-- The slice of a session: the commands of a run on which its lines depend, found from the last command to the first.
use Rattle.std.specs.Prelude.{◌≡◌, Bool, true, false, ◌||◌, if◌then◌else◌, List, [], ◌∷◌, filter}
use Rattle.std.specs.List.{list_any}
use Rattle.isolation.specs.Machine.{Machine, Tagged}
use Rattle.isolation.specs.World.{after, is_in}

-- A slice: the sessions whose state before the run matters, and for each command whether it is kept.
pub record Slice (Name : Type 0) : Type 0 where
  pub members : List Name
  pub marks : List Bool

-- What a run notes about a command: its session, and the sessions that have a join which names it just before the
-- command.
pub record Note (Name : Type 0) : Type 0 where
  pub session : Name
  pub joiners : List Name

-- The entries whose marks are true.
abbrev pub kept : {Entry : Type 0} → List Bool → List Entry → List Entry
kept [] entries = []
kept (mark ∷ marks) [] = []
kept (mark ∷ marks) (entry ∷ entries) = if mark then entry ∷ kept marks entries else kept marks entries

-- The slice with one more command in front. A command that matters is kept, and its session becomes a member.
abbrev pub with_mark : {Name : Type 0} → Bool → Name → Slice Name → Slice Name
with_mark true name rest = record { members = name ∷ rest.members; marks = true ∷ rest.marks }
with_mark false name rest = record { members = rest.members; marks = false ∷ rest.marks }

-- Marks for equally many entries, which keep at least what the first marks keep.
abbrev pub KeepsAtLeast : List Bool → List Bool → Type 0
KeepsAtLeast [] [] = Unit {0}
KeepsAtLeast [] (more ∷ mores) = ⊥
KeepsAtLeast (mark ∷ marks) [] = ⊥
KeepsAtLeast (mark ∷ marks) (more ∷ mores) = (mark ≡ true → more ≡ true) × KeepsAtLeast marks mores

module _ {Name State Command Line Post : Type 0} (m : Machine Name State Command Line Post) where
  -- Whether a command of `t` matters to the members: `t` is a member, or a member has a join that names `t`.
  abbrev pub matters : (Name → State) → List Name → Name → Bool
  matters world members t = is_in m t members || list_any (λ r. m.names (world r) t) members

  -- The slice of `s` in a run.
  abbrev pub slice : Name → (Name → State) → List (Tagged Name Command) → Slice Name
  slice s world [] = record { members = s ∷ []; marks = [] }
  slice s world (t ∷ ts) =
      let rest = slice s (after m world t) ts in
      with_mark (matters world rest.members t.session) t.session rest

  -- The note is right: its joiners are exactly the sessions with a join that names this one.
  pub record IsNote (world : Name → State) (t : Tagged Name Command) (note : Note Name) : Type 0 where
    pub session : note.session ≡ t.session
    pub joiners : (r : Name) → is_in m r note.joiners ≡ m.names (world r) t.session

  -- Each note is right for its command.
  abbrev pub AreNotes : (Name → State) → List (Tagged Name Command) → List (Note Name) → Type 0
  AreNotes world [] notes = notes ≡ []
  AreNotes world (t ∷ ts) [] = ⊥
  AreNotes world (t ∷ ts) (note ∷ notes) = IsNote world t note × AreNotes (after m world t) ts notes

  -- The notes of a run in which these names are known.
  abbrev pub notes_of : List Name → (Name → State) → List (Tagged Name Command) → List (Note Name)
  notes_of known world [] = []
  notes_of known world (t ∷ ts) =
      record { session = t.session; joiners = filter (λ r. m.names (world r) t.session) known } ∷ notes_of known (after m world t) ts

  -- The slice, computed from the notes alone.
  abbrev pub back : Name → List (Note Name) → Slice Name
  back s [] = record { members = s ∷ []; marks = [] }
  back s (note ∷ notes) =
      let rest = back s notes in
      with_mark (is_in m note.session rest.members || list_any (λ r. is_in m r note.joiners) rest.members) note.session rest
