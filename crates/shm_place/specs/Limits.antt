-- The limits that everything else stands on. There are at most 16 sites. A page has 4,096 bytes, a segment at most 256 pages; a home makes
-- at most 65,536 segments. Where a site is limited to so many copies of pages, that is at most 65,536.
use Rattle.std.specs.Prelude.{ℕ}

abbrev pub max_sites : ℕ
max_sites = 16

abbrev pub page_bytes : ℕ
page_bytes = 4096

abbrev pub max_segment_bytes : ℕ
max_segment_bytes = 1048576

abbrev pub pages : ℕ
pages = 256

abbrev pub segments_of_a_home : ℕ
segments_of_a_home = 65536

abbrev pub max_frames : ℕ
max_frames = 65536
