pub mod Recordings
