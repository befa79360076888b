-- What statements show follows from what words show.
mod Misfits
