mod Same
mod Tested
mod Accepted
mod Streets
mod Sound
