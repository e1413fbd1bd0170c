-- The layout of the lent words, with the names of words/src/lib.rt (a - stands for a _). Each name is its number, everywhere. Definitions only.
--
-- The 128 units of 65,536 words that are lent, and what is free among them (79 are used, the last of them in part, and 49 are free):
--
--     units      words                   regions
--     0 to 17    0 to 1179647            the 18 regions of SMALL words, from GRAPH-LHS to LEARNED
--     18 to 23   1179648 to 1572863      free: 6 units
--     24 to 31   1572864 to 2097151      the 4 regions of DOUBLE words, from AND-HEADS to WATCH-COUNTS
--     32 to 39   2097152 to 2621439      CLAUSE-STARTS, of STARTS words
--     40 to 55   2621440 to 3670015      WATCHED, of CELLS words
--     56 to 71   3670016 to 4718591      LINKS, of CELLS words
--     72 to 83   4718592 to 5505023      LITERALS, of POOL words
--     84         5505024 to 5507071      NETS and STATES, of TABLE words each; the rest of the unit is free
--     85 to 127  5570560 to 8388607      free: 43 units
--
-- In FRAMES the rows of cycles 0 to 64 take 33,280 words; the other 32,256 are free, and so are words 385 to 511 of each row.
-- A new region stands where `size_of` of Region.antt gives it its size.
use Rattle.std.specs.Prelude.{ℕ}

-- how many words a check is lent at least
abbrev pub LENT : ℕ
LENT = 8388608

-- ---- sizes of regions

-- a word for each node, variable or trail place
abbrev pub SMALL : ℕ
SMALL = 65536

-- a word for each literal
abbrev pub DOUBLE : ℕ
DOUBLE = 131072

-- a word for each clause
abbrev pub STARTS : ℕ
STARTS = 524288

-- a word for each slot of a clause
abbrev pub CELLS : ℕ
CELLS = 1048576

-- a word for each literal of a clause
abbrev pub POOL : ℕ
POOL = 786432

-- a word for each net of a design
abbrev pub TABLE : ℕ
TABLE = 1024

-- ---- bounds

-- how many nodes a graph has at most, and how many variables and scores a search
abbrev pub MOST-NODES : ℕ
MOST-NODES = SMALL

-- how many literals a search learns at most
abbrev pub MOST-LEARNED : ℕ
MOST-LEARNED = 262144

-- ---- regions of SMALL words

-- the proof graph: the first literal of each node
abbrev pub GRAPH-LHS : ℕ
GRAPH-LHS = 0

-- the proof graph: the second literal of each node
abbrev pub GRAPH-RHS : ℕ
GRAPH-RHS = 65536

-- the node before it with the same larger literal
abbrev pub AND-NEXT : ℕ
AND-NEXT = 131072

-- gold's transition graph: the first literals; the second ones stand SMALL words on, as in every graph
abbrev pub GOLD-LHS : ℕ
GOLD-LHS = 196608

-- gold's transition graph: the second literals
abbrev pub GOLD-RHS : ℕ
GOLD-RHS = 262144

-- gate's transition graph: the first literals
abbrev pub GATE-LHS : ℕ
GATE-LHS = 327680

-- gate's transition graph: the second literals
abbrev pub GATE-RHS : ℕ
GATE-RHS = 393216

-- the literal of each node of an imported graph
abbrev pub IMPORTED : ℕ
IMPORTED = 458752

-- the literals of inputs, outputs and mismatches of each cycle
abbrev pub FRAMES : ℕ
FRAMES = 524288

-- what is known of the best of each block of BLOCK variables
abbrev pub BLOCKS : ℕ
BLOCKS = 589824

-- how many variables a block has
abbrev pub BLOCK : ℕ
BLOCK = 64

-- the value of each variable
abbrev pub VALUES : ℕ
VALUES = 655360

-- the level of each variable
abbrev pub LEVELS : ℕ
LEVELS = 720896

-- the reason of each variable
abbrev pub REASONS : ℕ
REASONS = 786432

-- the phase of each variable
abbrev pub PHASES : ℕ
PHASES = 851968

-- the stamp of the last conflict that saw each variable
abbrev pub SEEN : ℕ
SEEN = 917504

-- the trail
abbrev pub TRAIL : ℕ
TRAIL = 983040

-- where in the trail each decision level begins
abbrev pub LIMITS : ℕ
LIMITS = 1048576

-- the literals of a clause being learned
abbrev pub LEARNED : ℕ
LEARNED = 1114112

-- ---- a row of FRAMES, whose inputs stand at its beginning

-- how many words a cycle has
abbrev pub ROW : ℕ
ROW = 512

-- where gold's outputs stand in a row
abbrev pub GOLD-OUTPUTS : ℕ
GOLD-OUTPUTS = 128

-- where gate's outputs stand in a row
abbrev pub GATE-OUTPUTS : ℕ
GATE-OUTPUTS = 256

-- where the mismatch stands in a row
abbrev pub MISMATCH : ℕ
MISMATCH = 384

-- ---- regions of DOUBLE words

-- the newest node with this larger literal
abbrev pub AND-HEADS : ℕ
AND-HEADS = 1572864

-- the first cell of each literal's watch queue
abbrev pub WATCH-HEADS : ℕ
WATCH-HEADS = 1703936

-- the last cell of each literal's watch queue
abbrev pub WATCH-TAILS : ℕ
WATCH-TAILS = 1835008

-- how many cells each literal's watch queue has
abbrev pub WATCH-COUNTS : ℕ
WATCH-COUNTS = 1966080

-- ---- regions of the clauses

-- where the literals of each clause begin
abbrev pub CLAUSE-STARTS : ℕ
CLAUSE-STARTS = 2097152

-- the two watched literals of each clause
abbrev pub WATCHED : ℕ
WATCHED = 2621440

-- the next cell of the queue that a slot is in
abbrev pub LINKS : ℕ
LINKS = 3670016

-- the literals of all clauses
abbrev pub LITERALS : ℕ
LITERALS = 4718592

-- ---- regions of TABLE words

-- the literal of each net
abbrev pub NETS : ℕ
NETS = 5505024

-- the variable of each register output, by its net, while a design is lowered
abbrev pub STATES : ℕ
STATES = 5506048
